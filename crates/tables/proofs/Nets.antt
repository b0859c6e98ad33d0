-- What a look at one net's list tells of the joins.
use Rattle.std.proofs.Common.{◌≡◌, ℕ, suc, ◌+◌, ◌-◌, ◌<◌, ◌≤◌, List, ◌∷◌, length, get_or, drop, slice_range, ap, ◌∙◌, subst, ⊎_elim, arith, length-take, length-drop}
use Rattle.std.proofs.lemmas.List.{get_or-take, get_or-drop}
use Rattle.std.proofs.lemmas.Bool.{cases_lt}
use Rattle.tables.specs.Tables.{start, Rises}
use Rattle.tables.specs.Faults.{Fine, StrayIn, Stray, AllFine}
use Rattle.tables.proofs.Checks.{rising}

-- the list of a net whose joins stand from `from` up to `to`
module _ (n : ℕ) (js : List ℕ) (from to : ℕ) (room : to ≤ length js) where
  size : length (slice_range js from to) ≡ to - from
  size = simp (length-take, length-drop) (omega arith)

  part_at : (k : ℕ) → from + k < to → get_or (slice_range js from to) k 0 ≡ get_or js (from + k) 0
  part_at k h = get_or-take (to - from) (drop from js) k 0 (omega arith) ∙ get_or-drop from js k 0

  before : (k : ℕ) → 0 < k → from + k < to → get_or (slice_range js from to) (k - 1) 0 ≡ get_or js (from + k - 1) 0
  before k p h = let e : from + (k - 1) ≡ from + k - 1 = omega arith in part_at (k - 1) (omega arith) ∙ ap (λ i. get_or js i 0) e

  fine_there : (k : ℕ) → from + k < to → Fine n (slice_range js from to) 0 k → Fine n js from (from + k)
  fine_there k h q = record {
    part = omega (arith, q.part, part_at k h);
    above = λ b. omega (arith, q.above (omega arith), part_at k h, before k (omega arith) h);
  }

  fine_here : (k : ℕ) → from + k < to → Fine n js from (from + k) → Fine n (slice_range js from to) 0 k
  fine_here k h q = record {
    part = omega (arith, q.part, part_at k h);
    above = λ b. omega (arith, q.above (omega arith), part_at k h, before k (omega arith) h);
  }

  all_there : ((k : ℕ) → k < length (slice_range js from to) → Fine n (slice_range js from to) 0 k) → (j : ℕ) → from ≤ j → j < to → Fine n js from j
  all_there all j lo hi =
      let e : from + (j - from) ≡ j = omega arith in
      let F : ℕ → Type 0 = λ i. Fine n js from i in
      subst F e (fine_there (j - from) (omega arith) (all (j - from) (omega (arith, size))))

module _ (n : ℕ) (ends js : List ℕ) (f : ℕ) (room : get_or ends f 0 ≤ length js) (all : AllFine n ends js f) where
  -- one more net whose list is fine
  pub fine_more : ((k : ℕ) → k < length (slice_range js (start ends f) (get_or ends f 0)) → Fine n (slice_range js (start ends f) (get_or ends f 0)) 0 k) → AllFine n ends js (f + 1)
  fine_more here g j h lo hi =
      ⊎_elim
      (λ (q : g < f). all g j q lo hi)
      (λ (q : f ≤ g).
      let e : f ≡ g = omega arith in
      let F : ℕ → Type 0 = λ i. Fine n js (start ends i) j in
      subst F e (all_there n js (start ends f) (get_or ends f 0) room here j (omega (arith, ap (start ends) e)) (omega (arith, ap (λ i. get_or ends i 0) e))))
      (cases_lt g f)

  -- the first stray of the next net's list is the first of all
  pub stray_more : (k : ℕ) → Rises ends → f < length ends → StrayIn n (slice_range js (start ends f) (get_or ends f 0)) k → Stray n ends js (start ends f + k)
  stray_more k rises there s =
      let to = get_or ends f 0 in
      let from = start ends f in
      let h : from + k < to = omega (arith, s.there, size n js from to room) in
      record {
        net = f;
        there = there;
        from = omega arith;
        to = h;
        bad = λ q. s.bad (fine_here n js from to room k h q);
        earlier = λ g j l lo hi lt.
            ⊎_elim
            (λ (q : g < f). all g j q lo hi)
            (λ (q : f ≤ g).
            let m : get_or (0 ∷ ends) f 0 ≤ get_or (0 ∷ ends) g 0 = rising 0 ends f g rises q (omega arith) in
            ⊎_elim
            (λ (p : f < g). let past : get_or (0 ∷ ends) (suc f) 0 ≤ get_or (0 ∷ ends) g 0 = rising 0 ends (suc f) g rises (omega arith) (omega arith) in let z : ⊥ = omega (arith, past) in elim z [ ])
            (λ (p : g ≤ f).
            let e : f ≡ g = omega arith in
            let F : ℕ → Type 0 = λ i. Fine n js (start ends i) j in
            let d : from + (j - from) ≡ j = omega (arith, ap (start ends) e) in
            let G : ℕ → Type 0 = λ i. Fine n js from i in
            subst F e (subst G d (fine_there n js from to room (j - from) (omega arith) (s.earlier (j - from) (omega arith)))))
            (cases_lt f g))
            (cases_lt g f);
      }
