-- The tally of a net's classes counts, for each class, the parts of that class on the net.
use Rattle.std.proofs.Common.{◌≡◌, ℕ, zero, suc, ◌+◌, ◌<◌, ◌≤◌, Bool, true, false, cond, eqb, ◌⊎◌, List, [], ◌∷◌, ◌++◌, map, length, get_or, take, Ok, Decides, count_by, Ordering, Less, Equal, Greater, sym, refl, ap, ◌∙◌, inl, inr, ⊎_elim, arith}
use Rattle.std.specs.Ordering.{is_eq, nat_cmp}
use Rattle.std.specs.Cmp.{nat_cmp_total, unsigned_tied}
use Rattle.std.proofs.lemmas.List.{length-map, map_more, length-take-le}
use Rattle.std.proofs.lemmas.List.Sums.{sum_by-cons}
use Rattle.std.proofs.lemmas.Bool.{cases_order, eq-eqb, ne_eqb}
use Rattle.std.proofs.lemmas.Bool.Decides.{Decides-like, same_from_decides}
use Rattle.circuit.specs.Circuit.{Circuit, parts, net, class, Sound, bit, count}
use Rattle.circuit.proofs.Masks.{net_ascends, net_below}
use Rattle.circuit.proofs.Nets.{net_count}
use Rattle.tally.specs.declared.entry.Entry.{Entry}
use Rattle.tally.specs.Tallies.{by, counted, tallied, answer}
use Rattle.tally.specs.Levels.{times}
use Rattle.tally.proofs.Counts.{counted_tallied, roomy, answer_room}
use Rattle.sieves.specs.Counts.{classed, SameCounts, have_same_counts, classes_on}
use Rattle.sieves.proofs.Kept.{counts_decided}

-- ## Counting by the order of numbers

tied : (q : Ordering) → by q 0 1 0 ≡ bit (is_eq q)
tied Less = refl
tied Equal = refl
tied Greater = refl

pub tie : (x y : ℕ) → by (nat_cmp x y) 0 1 0 ≡ bit (eqb x y)
tie x y = tied (nat_cmp x y) ∙ ap bit (unsigned_tied x y)

bit_cond : (t : Bool) → bit t ≡ cond t 1 0
bit_cond true = refl
bit_cond false = refl

-- how often a class stands among the classes of some parts
times_classes : (c : Circuit) (cls : ℕ) (vs : List ℕ) → times nat_cmp (map (class c) vs) cls ≡ count_by (λ v. eqb (class c v) cls) vs
times_classes c cls [] = refl
times_classes c cls (v ∷ vs) =
    let i = times_classes c cls vs in
    let e = tie (class c v) cls ∙ bit_cond (eqb (class c v) cls) in
    let s = sum_by-cons (λ (w : ℕ). cond (eqb (class c w) cls) 1 0) v vs in
    omega (arith, i, e, s)

pub times_net : (c : Circuit) → Sound c → (f cls : ℕ) → times nat_cmp (classes_on c f) cls ≡ count (classed c f cls) (parts c)
times_net c sound f cls =
    times_classes c cls (net c f)
    ∙ sym (net_count (λ v. eqb (class c v) cls) (parts c) (net c f) (net_ascends c sound f) (net_below c sound f))

-- ## Lists with equal counts are equally long

-- how often the keys below n came, added up
total : List ℕ → ℕ → ℕ
total xs zero = 0
total xs (suc n) = times nat_cmp xs n + total xs n

total_none : (n : ℕ) → total [] n ≡ 0
unfolding total
total_none zero = refl
total_none (suc n) = let i = total_none n in omega arith

-- the key x came once among those below n, or not at all
once : (x n : ℕ) → ((x < n) × (count (eqb x) n ≡ 1)) ⊎ ((n ≤ x) × (count (eqb x) n ≡ 0))
once x zero = inr (omega arith, refl)
once x (suc n) = ⊎_elim (λ h. inl (omega (arith, h.0), below h)) (λ h. reach h (cases_order x n)) (once x n)
  where
    below : (x < n) × (count (eqb x) n ≡ 1) → bit (eqb x n) + count (eqb x) n ≡ 1
    below (l, c) = let e : bit (eqb x n) ≡ 0 = ap bit (ne_eqb x n (λ q. omega arith)) in omega arith

    reach : (n ≤ x) × (count (eqb x) n ≡ 0) → (x ≡ n) ⊎ ((x < n) ⊎ (n < x)) → ((x < suc n) × (bit (eqb x n) + count (eqb x) n ≡ 1)) ⊎ ((suc n ≤ x) × (bit (eqb x n) + count (eqb x) n ≡ 0))
    reach (l, c) (inl q) = let e : bit (eqb x n) ≡ 1 = ap bit (eq-eqb x n q) in inl (omega arith, omega arith)
    reach (l, c) (inr (inl q)) = absurd (omega arith)
    reach (l, c) (inr (inr q)) = let e : bit (eqb x n) ≡ 0 = ap bit (ne_eqb x n (λ z. omega arith)) in inr (omega arith, omega arith)

total_more : (x : ℕ) (xs : List ℕ) (n : ℕ) → total (x ∷ xs) n ≡ count (eqb x) n + total xs n
unfolding total
total_more x xs zero = refl
total_more x xs (suc n) = let i = total_more x xs n in let e = tie x n in omega (arith, i, e)

abbrev AllUnder : ℕ → List ℕ → Type 0
AllUnder n [] = Unit {0}
AllUnder n (x ∷ xs) = (x < n) × AllUnder n xs

total_length : (n : ℕ) (xs : List ℕ) → AllUnder n xs → total xs n ≡ length xs
total_length n [] h = total_none n
total_length n (x ∷ xs) h =
    let i = total_length n xs h.1 in
    let m = total_more x xs n in
    ⊎_elim (λ q. omega (arith, q.1)) (λ q. absurd (omega (arith, q.0, h.0))) (once x n)

-- some number is above all of them
bound : List ℕ → ℕ
bound [] = 0
bound (x ∷ xs) = suc x + bound xs

under_more : (n m : ℕ) (xs : List ℕ) → n ≤ m → AllUnder n xs → AllUnder m xs
under_more n m [] l h = tt
under_more n m (x ∷ xs) l h = let q = h.0 in (omega arith, under_more n m xs l h.1)

bounded : (xs : List ℕ) → AllUnder (bound xs) xs
unfolding bound
bounded [] = tt
bounded (x ∷ xs) = (omega arith, under_more (bound xs) (suc x + bound xs) xs (omega arith) (bounded xs))

total_same : (xs ys : List ℕ) → ((k : ℕ) → times nat_cmp xs k ≡ times nat_cmp ys k) → (n : ℕ) → total xs n ≡ total ys n
unfolding total
total_same xs ys h zero = refl
total_same xs ys h (suc n) = let i = total_same xs ys h n in let e = h n in omega arith

same_length : (xs ys : List ℕ) → ((k : ℕ) → times nat_cmp xs k ≡ times nat_cmp ys k) → length xs ≡ length ys
same_length xs ys h =
    let n = bound xs + bound ys in
    sym (total_length n xs (under_more (bound xs) n xs (omega arith) (bounded xs)))
    ∙ total_same xs ys h n
    ∙ total_length n ys (under_more (bound ys) n ys (omega arith) (bounded ys))

-- ## Two nets

module _ (p : Circuit) (sp : Sound p) (i : ℕ) (b : Circuit) (sb : Sound b) (f : ℕ) where
  -- equal tallies are equal counts for each class
  pub level_counts : (ps bs : List (Entry ℕ)) → ps ≡ tallied nat_cmp (classes_on p i) → bs ≡ tallied nat_cmp (classes_on b f)
      → (r : Bool) → Decides r ((k : ℕ) → counted nat_cmp ps k ≡ counted nat_cmp bs k) → r ≡ have_same_counts p i b f
  level_counts ps bs pe be r d = same_from_decides r (have_same_counts p i b f) (Decides-like r to from d) (counts_decided p i b f)
    where
      pattern_side : (k : ℕ) → counted nat_cmp ps k ≡ count (classed p i k) (parts p)
      pattern_side k = ap (λ (es : List (Entry ℕ)). counted nat_cmp es k) pe ∙ counted_tallied nat_cmp_total (classes_on p i) k ∙ times_net p sp i k

      board_side : (k : ℕ) → counted nat_cmp bs k ≡ count (classed b f k) (parts b)
      board_side k = ap (λ (es : List (Entry ℕ)). counted nat_cmp es k) be ∙ counted_tallied nat_cmp_total (classes_on b f) k ∙ times_net b sb f k

      to : ((k : ℕ) → counted nat_cmp ps k ≡ counted nat_cmp bs k) → SameCounts p i b f
      to h k = sym (pattern_side k) ∙ h k ∙ board_side k

      from : SameCounts p i b f → (k : ℕ) → counted nat_cmp ps k ≡ counted nat_cmp bs k
      from h k = pattern_side k ∙ h k ∙ sym (board_side k)

  -- nets of unlike sizes differ in some class
  pub unlike_sizes : (length (net p i) ≡ length (net b f) → ⊥) → false ≡ have_same_counts p i b f
  unlike_sizes n = same_from_decides false (have_same_counts p i b f) (λ z. absurd (let w : ◌≡◌ {A = ℕ} 0 1 = cc in omega arith), λ h. absurd (n (same h))) (counts_decided p i b f)
    where
      same : SameCounts p i b f → length (net p i) ≡ length (net b f)
      same h =
          sym (length-map (net p i) (class p))
          ∙ same_length (classes_on p i) (classes_on b f) (λ k. times_net p sp i k ∙ h k ∙ sym (times_net b sb f k))
          ∙ length-map (net b f) (class b)

-- ## One part more

module _ (c : Circuit) (f k : ℕ) (h : k < length (net c f)) where
  pub so_far_more : map (class c) (take (k + 1) (net c f)) ≡ map (class c) (take k (net c f)) ++ class c (get_or (net c f) k 0) ∷ []
  so_far_more = map_more (class c) (net c f) k 0 h

  pub so_far_room : (room : ℕ) (es : List (Entry ℕ)) (cls : ℕ) → es ≡ tallied nat_cmp (map (class c) (take k (net c f))) → length (net c f) ≤ room → k < 65535
      → answer nat_cmp es cls room ≡ Ok tt
  so_far_room room es cls e fits low =
      let ks = map (class c) (take k (net c f)) in
      let n : length ks ≡ k = length-map (take k (net c f)) (class c) ∙ length-take-le k (net c f) (omega arith) in
      ap (λ (z : List (Entry ℕ)). answer nat_cmp z cls room) e
      ∙ answer_room nat_cmp (length ks) room (tallied nat_cmp ks) cls (roomy nat_cmp ks) (omega arith) (omega arith)
