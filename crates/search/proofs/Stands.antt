-- What the levels of a search say of its bookmark, and one more try of a call.
use Rattle.std.proofs.Common.{◌≡◌, ℕ, suc, ◌+◌, ◌<◌, ◌≤◌, Bool, true, false, ◌&&◌, ltb, leb, ◌⊎◌, List, [], ◌∷◌, length, sym, refl, ap, ◌∙◌, subst, subst₂, inl, inr, add-one, arith}
use Rattle.std.proofs.lemmas.Bool.{cond-true, cond-false, ltb-true, leb-true, lt-ltb, le-leb, le-ltb, and_parts, and_from, and_left, cases_lt, both_ways}
use Rattle.std.proofs.lemmas.List.{length-map, nil_from_length}
use Rattle.circuit.specs.Circuit.{Circuit, N, Sound, are_below}
use Rattle.promise.specs.Order.{Mark, at, end}
use Rattle.promise.specs.Search.{Found, Quiet, Answer, Next}
use Rattle.promise.specs.Hits.{passing, Called}
use Rattle.promise.proofs.Lawful.{called}
use Rattle.circuit.proofs.Decided.{below_decided}
use Rattle.search.specs.declared.bookmark.Level.{Level}
use Rattle.search.specs.Held.{held, is_start, bookmark, standing, Sits, moved, rules}
use Rattle.search.specs.declared.bookmark.Search.{Search}
use Rattle.promise.proofs.Steps.{quiet_more}

pub standing_some : (s : List ℕ) → 0 < length s → standing s ≡ at s
standing_some [] l = absurd (omega arith)
standing_some (x ∷ xs) l = refl

pub held_long : (q : Search) → length (held q) ≡ length q.levels.items
held_long q = length-map q.levels.items (λ (l : Level). l.net)

pub start_sits : (m N : ℕ) (q : Search) → is_start m N q ≡ true → Sits m N q × (0 < length q.levels.items)
start_sits m N q e =
    let n = length q.levels.items in
    let p = and_parts (ltb 0 n) (leb n m && are_below N (held q)) e in
    let r = and_parts (leb n m) (are_below N (held q)) p.1 in
    (record { few = leb-true n m r.0; below = (below_decided N (held q)).0 r.1 }, ltb-true 0 n p.0)

pub sits_bookmark : (m N : ℕ) (q : Search) → Sits m N q → bookmark m N q ≡ standing (held q)
sits_bookmark m N q w = go (cases_lt 0 (length q.levels.items))
  where
    n : ℕ
    n = length q.levels.items

    go : (0 < n) ⊎ (n ≤ 0) → bookmark m N q ≡ standing (held q)
    go (inl g) =
        cond-true (is_start m N q) _ _
        (and_from (ltb 0 n) (leb n m && are_below N (held q)) (lt-ltb 0 n g)
        (and_from (leb n m) (are_below N (held q)) (le-leb n m w.few) ((below_decided N (held q)).1 w.below)))
        ∙ sym (standing_some (held q) (omega (arith, held_long q)))
    go (inr g) =
        cond-false (is_start m N q) _ _ (and_left (ltb 0 n) (leb n m && are_below N (held q)) (le-ltb 0 n g))
        ∙ ap standing (sym (nil_from_length (held q) (omega (arith, held_long q))))

pub no_start : (m N : ℕ) (q : Search) → is_start m N q ≡ false → bookmark m N q ≡ end
no_start m N q e = cond-false (is_start m N q) _ _ e

-- one more try that is no hit
pub one_more : (m N : ℕ) (p : List ℕ → Bool) (t : ℕ) (k : Mark) (s s' : List ℕ) (pass : Bool) → 0 < length s
    → Quiet (rules m N p) t k (standing s) → pass ≡ p s → (Found (rules m N p) s → ⊥) → standing s' ≡ moved m N pass s → Quiet (rules m N p) (t + 1) k (standing s')
one_more m N p t k s s' pass l q e none g =
    let R = rules m N p in
    subst (λ n. Quiet R n k (standing s')) (sym (add-one t))
    (subst (Quiet R (suc t) k) (ap (λ b. moved m N b s) (sym e) ∙ sym g) (quiet_more R t k s (subst (Quiet R t k) (standing_some s l) q) none))

pub standing_none : (q : Search) → length q.levels.items ≡ 0 → standing (held q) ≡ end
standing_none q e = ap standing (nil_from_length (held q) (held_long q ∙ e))

pub at_no_end : (k : Mark) (s : List ℕ) → k ≡ at s → k ≡ end → ⊥
at_no_end k s e f = let z : ◌≡◌ {A = ℕ} 0 1 = cc in omega arith

pub not_found : (m N : ℕ) (p : List ℕ → Bool) (s : List ℕ) (pass : Bool) → pass ≡ p s → (pass ≡ false) ⊎ (length s ≡ m → ⊥) → Found (rules m N p) s → ⊥
not_found m N p s pass e (inl f) g = both_ways pass f (e ∙ g.0)
not_found m N p s pass e (inr f) g = f g.1

-- a call in the code's numbers of nets is one in those of the circuits
pub called_at : (p b : Circuit) → Sound p → Sound b → (keeps : List ℕ → Bool) → (m n : ℕ) → m ≡ N p → n ≡ N b → 1 ≤ m
    → (q : Search) (budget : ℕ) (row : List ℕ) (a : Answer) (q' : Search) (row' : List ℕ)
    → Next (rules m n (passing p b keeps)) (bookmark m n q) budget row a (bookmark m n q') row'
    → Called p b keeps (bookmark (N p) (N b) q) budget row a (bookmark (N p) (N b) q') row'
called_at p b sp sb keeps m n e d some q budget row a q' row' x =
    called p b sp sb keeps (omega arith) (bookmark (N p) (N b) q) budget row a (bookmark (N p) (N b) q') row'
    (subst₂ (λ (i j : ℕ). Next (rules i j (passing p b keeps)) (bookmark i j q) budget row a (bookmark i j q') row') e d x)
