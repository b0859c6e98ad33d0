-- The levels of a search: raised and tested one by one.
use Rattle.std.proofs.Common.{◌≡◌, ℕ, suc, ◌+◌, ◌-◌, ◌<◌, ◌≤◌, Bool, false, ◌&&◌, ltb, ◌⊎◌, List, [], ◌∷◌, ◌++◌, length, get_or, take, set, sym, refl, ap, ◌∙◌, subst, inl, inr, arith}
use Rattle.std.proofs.lemmas.Bool.{cond-true, cond-false, cond_both, lt-ltb, le-ltb}
use Rattle.std.proofs.lemmas.List.{take_all, take-take, take-map, length-map, take-set, take_more_set, take-append-le, map_more, map-append, length-set, length-append}
use Rattle.circuit.specs.Circuit.{AllBelow, are_below}
use Rattle.promise.specs.Order.{Mark, at, end}
use Rattle.promise.specs.Search.{raised, raise}
use Rattle.std.specs.List.{list_all, refill}
use Rattle.arrayvec.proofs.ArrayVecLemmas.{items-with_items}
use Rattle.search.specs.Held.{standing, moved, nets}
use Rattle.search.specs.declared.bookmark.Level.{Level}
use Rattle.promise.proofs.Order.{raise_last, raise_fine, Fine}

-- every level is below N
pub levels_below : (N : ℕ) (ls : List Level) → list_all (λ (l : Level). ltb l.net N) ls ≡ are_below N (nets ls)
levels_below N [] = refl
levels_below N (l ∷ ls) = ap (λ (t : Bool). ltb l.net N && t) (levels_below N ls)

-- the last of the levels in use, l, after the others
pub split_last : (ls : List Level) (l : Level) → 0 < length ls → l ≡ get_or ls (length ls - 1) l → nets ls ≡ nets (take (length ls - 1) ls) ++ l.net ∷ []
split_last ls l some e =
    let i = length ls - 1 in
    sym (ap nets (take_all (i + 1) ls (omega arith)))
    ∙ map_more (λ (x : Level). x.net) ls i l (omega arith)
    ∙ ap (λ (x : Level). nets (take i ls) ++ x.net ∷ []) (sym e)

-- the same of the level that is lent from them
pub last_lent : (ls ys : List Level) (l : Level) → ys ≡ ls → (0 < length ys) × ((d : Level) → l ≡ get_or ys (length ys - 1) d) → (0 < length ls) × (nets ls ≡ nets (take (length ls - 1) ls) ++ l.net ∷ [])
last_lent ls ys l e h =
    subst (λ zs. (0 < length zs) × (nets zs ≡ nets (take (length zs - 1) zs) ++ l.net ∷ [])) e (h.0, split_last ys l h.0 (h.1 l))

pub set_last : (ls : List Level) (l : Level) → 0 < length ls → nets (set ls (length ls - 1) l) ≡ nets (take (length ls - 1) ls) ++ l.net ∷ []
set_last ls l some =
    let i = length ls - 1 in
    sym (ap nets (take_all (i + 1) (set ls i l) (omega (arith, length-set ls i l))))
    ∙ ap nets (take_more_set ls i l (omega arith))
    ∙ map-append (λ (x : Level). x.net) (take i ls) (l ∷ [])

-- the levels once the last was lent and left as l
pub lent : (ls ys : List Level) (l : Level) → ys ≡ ls → refill (length ls) ls (set ys (length ys - 1) l) ≡ set ls (length ls - 1) l
lent ls ys l e =
    ap (λ zs. refill (length ls) ls (set zs (length zs - 1) l)) e
    ∙ items-with_items (record { items = ls }) (set ls (length ls - 1) l) (length-set ls (length ls - 1) l)

-- and those that are left once it is removed
pub left : (ls ys : List Level) (l : Level) → ys ≡ ls → let zs = refill (length ls) ls (set ys (length ys - 1) l) in take (length zs - 1) zs ≡ take (length ls - 1) ls
left ls ys l e =
    ap (λ zs. take (length zs - 1) zs) (lent ls ys l e)
    ∙ ap (λ n. take (n - 1) (set ls (length ls - 1) l)) (length-set ls (length ls - 1) l)
    ∙ take-set ls (length ls - 1) l

pub below_parts : (N : ℕ) (s : List ℕ) (x : ℕ) → AllBelow N (s ++ x ∷ []) → AllBelow N s × (x < N)
below_parts N [] x b = (tt, b.0)
below_parts N (y ∷ ys) x b =
    let r = below_parts N ys x b.1 in
    ((b.0, r.0), r.1)

pub standing_push : (s : List ℕ) (x : ℕ) → standing (s ++ x ∷ []) ≡ at (s ++ x ∷ [])
standing_push [] x = refl
standing_push (y ∷ ys) x = refl

-- the last level is raised, and stays below N
pub climb_stops : (N : ℕ) (s : List ℕ) (x y : ℕ) → y ≡ x + 1 → y < N → standing (s ++ y ∷ []) ≡ raise N (s ++ x ∷ [])
climb_stops N s x y g h = rw (standing_push, raise_last, ← g) (sym (cond-true (ltb y N) _ _ (lt-ltb y N h)))

-- the last level reaches N, and is removed
pub climb_goes_on : (N : ℕ) (s : List ℕ) (x y : ℕ) → y ≡ x + 1 → N ≤ y → raise N s ≡ raise N (s ++ x ∷ [])
climb_goes_on N s x y g h = rw (raise_last, ← g) (sym (cond-false (ltb y N) _ _ (le-ltb y N h)))

-- any other is raised
pub raise_moves : (m N : ℕ) (pass : Bool) (s : List ℕ) → (pass ≡ false) ⊎ (m ≤ length s) → raise N s ≡ moved m N pass s
raise_moves m N pass s (inl e) = sym (cond-false pass _ _ e)
raise_moves m N pass s (inr g) =
    cond_both pass _ _ (λ k. raise N s ≡ k) (λ e. sym (cond-false (ltb (length s) m) _ _ (le-ltb _ m g))) (λ e. refl)

fine_below : (N n : ℕ) (s : List ℕ) → Fine N n (standing s) → AllBelow N s
fine_below N n [] f = tt
fine_below N n (x ∷ xs) f = f.2

pub climb_below : (N : ℕ) (s u : List ℕ) → AllBelow N s → standing u ≡ raise N s → AllBelow N u
climb_below N s u b e = fine_below N (length s) u (subst (Fine N (length s)) (sym e) (raise_fine N s b))

-- a mark whose numbers are those of s, but for the last
abbrev Keeps : List ℕ → Mark → Type 0
Keeps s (at u) = (length u ≤ length s + 1) × (take (length u - 1) u ≡ take (length u - 1) s)
Keeps s end = Unit {0}

raised_keeps : (N x : ℕ) (xs : List ℕ) (q : Mark) → Keeps xs q → Keeps (x ∷ xs) (raised N x q)
raised_keeps N x xs (at []) k = (omega arith, refl)
raised_keeps N x xs (at (y ∷ ys)) k =
    let one : length (y ∷ ys) - 1 ≡ length ys = omega arith in
    let two : length (x ∷ y ∷ ys) - 1 ≡ suc (length ys) = omega arith in
    let tail = subst (λ i. take i (y ∷ ys) ≡ take i xs) one k.1 in
    (omega (arith, k.0), subst (λ i. take i (x ∷ y ∷ ys) ≡ take i (x ∷ xs)) (sym two) (ap (λ zs. x ∷ zs) tail))
raised_keeps N x xs end k =
    cond_both (ltb (x + 1) N) (at ((x + 1) ∷ [])) end (Keeps (x ∷ xs)) (λ e. (omega arith, refl)) (λ e. tt)

raise_keeps : (N : ℕ) (s : List ℕ) → Keeps s (raise N s)
raise_keeps N [] = tt
raise_keeps N (x ∷ xs) = raised_keeps N x xs (raise N xs) (raise_keeps N xs)

-- a move alters no number but the last
move_keeps : (m N : ℕ) (pass : Bool) (s : List ℕ) → Keeps s (moved m N pass s)
move_keeps m N pass s =
    let long = length-append s (0 ∷ []) in
    let last : length (s ++ 0 ∷ []) - 1 ≡ length s = omega (arith, long) in
    let front = subst (λ i. take i (s ++ 0 ∷ []) ≡ take i s) (sym last) (take-append-le (length s) s (0 ∷ []) (omega arith)) in
    cond_both pass _ _ (Keeps s) (λ e. cond_both (ltb (length s) m) _ _ (Keeps s) (λ e. (omega (arith, long), front)) (λ e. raise_keeps N s)) (λ e. raise_keeps N s)

standing_keeps : (s u : List ℕ) → Keeps s (standing u) → (length u ≤ length s + 1) × (take (length u - 1) u ≡ take (length u - 1) s)
standing_keeps s [] k = (omega arith, refl)
standing_keeps s (x ∷ xs) k = k

-- so after it the numbers that were read want the last one anew, and no other
pub renewed : (m N : ℕ) (pass : Bool) (ls us : List Level) (l : Level) (row : List ℕ) (place : ℕ) → place + 1 ≡ length us → length us ≤ length row
    → take (length ls) row ≡ nets ls → standing (nets us) ≡ moved m N pass (nets ls) → l ≡ get_or us (length us - 1) l → take (length us) (set row place l.net) ≡ nets us
renewed m N pass ls us l row place once room read moves last =
    let net = λ (x : Level). x.net in
    let kept = standing_keeps (nets ls) (nets us) (subst (Keeps (nets ls)) (sym moves) (move_keeps m N pass (nets ls))) in
    let at-last : length (nets us) - 1 ≡ place = omega (arith, once, length-map us net) in
    let stays = subst (λ i. take i (nets us) ≡ take i (nets ls)) at-last kept.1 in
    let within : place ≤ length ls = omega (arith, once, kept.0, length-map ls net, length-map us net) in
    let front : take place row ≡ nets (take place us) = sym (take-take place (length ls) row within) ∙ ap (take place) read ∙ sym stays ∙ take-map net place us in
    let before : length us - 1 ≡ place = omega (arith, once) in
    subst (λ n. take n (set row place l.net) ≡ nets us) once
    (take_more_set row place l.net (omega (arith, once, room)) ∙ ap (λ zs. zs ++ l.net ∷ []) (front ∙ ap (λ i. nets (take i us)) (sym before)) ∙ sym (split_last us l (omega (arith, once)) last))
