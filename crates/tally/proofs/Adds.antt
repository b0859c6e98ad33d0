-- What adding does, by the place that was found.
use Rattle.std.proofs.Common.{arith, ◌≡◌, ℕ, zero, suc, ◌+◌, ◌<◌, Bool, cond, eqb, leb, List, [], ◌∷◌, ◌++◌, length, get_or, take, drop, set, Ok, Err, Result, Ordering, Less, Equal, Greater, sym, refl, ap, ◌∙◌, one-add}
use Rattle.std.proofs.lemmas.List.{get_or-take, get_or_default, length-take}
use Rattle.tally.specs.declared.entry.Entry.{Entry}
use Rattle.circuit.specs.declared.refusal.Reason.TheVariants.{TallyFull}
use Rattle.circuit.specs.declared.refusal.Refusal.{Refusal}
use Rattle.tally.specs.Tallies.{found, shift, by, by_found, counted, added, answer, bump, bumped}

abbrev pub applied : {K : Type 0} → Result ℕ ℕ → List (Entry K) → K → List (Entry K)
applied (Ok i) es k = bumped es i
applied (Err i) es k = take i es ++ (record { key = k; count = 1 } ∷ drop i es)

abbrev pub picked : {K : Type 0} → Result ℕ ℕ → List (Entry K) → Entry K → ℕ
picked (Ok i) es d = (get_or es i d).count
picked (Err i) es d = 0

module _ {K : Type 0} (c : K → K → Ordering) (k : K) where
  applied_on : (e : Entry K) (es : List (Entry K)) (r : Result ℕ ℕ) → e ∷ applied r es k ≡ applied (shift 1 r) (e ∷ es) k
  applied_on e es (Ok i) = ap (bumped (e ∷ es)) (sym (one-add i))
  applied_on e es (Err i) = ap (λ n. take n (e ∷ es) ++ (record { key = k; count = 1 } ∷ drop n (e ∷ es))) (sym (one-add i))

  pub added_is : (es : List (Entry K)) → added c es k ≡ applied (found c es k) es k
  added_is [] = refl
  added_is (e ∷ es) = go (c e.key k) (added_is es)
    where
      go : (r : Ordering) → added c es k ≡ applied (found c es k) es k → by r (e ∷ added c es k) (bump e ∷ es) (record { key = k; count = 1 } ∷ e ∷ es) ≡ applied (by r (shift 1 (found c es k)) (Ok 0) (Err 0)) (e ∷ es) k
      go Less rest = ap (λ t. e ∷ t) rest ∙ applied_on e es (found c es k)
      go Equal rest = refl
      go Greater rest = refl

  picked_on : (e : Entry K) (es : List (Entry K)) (d : Entry K) (r : Result ℕ ℕ) → picked r es d ≡ picked (shift 1 r) (e ∷ es) d
  picked_on e es d (Ok i) = ap (λ n. (get_or (e ∷ es) n d).count) (sym (one-add i))
  picked_on e es d (Err i) = refl

  pub counted_is : (es : List (Entry K)) (d : Entry K) → counted c es k ≡ picked (found c es k) es d
  counted_is [] d = refl
  counted_is (e ∷ es) d = go (c e.key k) (counted_is es d)
    where
      go : (r : Ordering) → counted c es k ≡ picked (found c es k) es d → by r (counted c es k) e.count 0 ≡ picked (by r (shift 1 (found c es k)) (Ok 0) (Err 0)) (e ∷ es) d
      go Less rest = rest ∙ picked_on e es d (found c es k)
      go Equal rest = refl
      go Greater rest = refl

pub bumped_set : {K : Type 0} (es : List (Entry K)) (i : ℕ) (d : Entry K) → set es i (bump (get_or es i d)) ≡ bumped es i
bumped_set [] i d = refl
bumped_set (y ∷ es) zero d = refl
bumped_set (y ∷ es) (suc i) d = ap (λ t. y ∷ t) (bumped_set es i d)

pub take_bumped : {K : Type 0} (n : ℕ) (es : List (Entry K)) (i : ℕ) → take n (bumped es i) ≡ bumped (take n es) i
take_bumped zero es i = refl
take_bumped (suc n) [] i = refl
take_bumped (suc n) (e ∷ es) zero = refl
take_bumped (suc n) (e ∷ es) (suc i) = ap (λ t. e ∷ t) (take_bumped n es i)

module _ {K : Type 0} (c : K → K → Ordering) (k : K) (es : List (Entry K)) where
  abbrev refused : Result (Unit {0}) Refusal
  refused = Err (record { reason = TallyFull; place = 0 })

  pub added_at : (i : ℕ) → Ok i ≡ found c es k → added c es k ≡ bumped es i
  added_at i e = added_is c k es ∙ ap (λ f. applied f es k) (sym e)

  pub added_gap : (i : ℕ) → Err i ≡ found c es k → added c es k ≡ take i es ++ (record { key = k; count = 1 } ∷ drop i es)
  added_gap i e = added_is c k es ∙ ap (λ f. applied f es k) (sym e)

  pub counted_found : (i : ℕ) (d : Entry K) → Ok i ≡ found c es k → counted c es k ≡ (get_or es i d).count
  counted_found i d e = counted_is c k es d ∙ ap (λ f. picked f es d) (sym e)

  pub counted_gap : (i : ℕ) → Err i ≡ found c es k → counted c es k ≡ 0
  counted_gap i e =
      let d : Entry K = record { key = k; count = 0 } in
      counted_is c k es d ∙ ap (λ f. picked f es d) (sym e)

  pub answer_at : (room i : ℕ) (d : Entry K) (b : Bool) → Ok i ≡ found c es k → eqb (get_or es i d).count 65535 ≡ b → answer c es k room ≡ cond b refused (Ok tt)
  answer_at room i d b e full =
      ap (λ f. cond (by_found f (eqb (counted c es k) 65535) (leb room (length es))) refused (Ok tt)) (sym e)
      ∙ ap (λ n. cond (eqb n 65535) refused (Ok tt)) (counted_found i d e)
      ∙ ap (λ t. cond t refused (Ok tt)) full

-- the entries in use are the first n of the table
module _ {K : Type 0} (c : K → K → Ordering) (k : K) (es : List (Entry K)) (n : ℕ) (us : List (Entry K)) (used : us ≡ take n es) where
  abbrev in_use : {r : Result ℕ ℕ} → r ≡ found c us k → r ≡ found c (take n es) k
  in_use e = e ∙ ap (λ xs. found c xs k) used

  below : (i : ℕ) → i < length us → (i < n) × (i < length es)
  below i h = let l = length-take n es in let m = ap length used in (omega arith, omega arith)

  pub answer_used : (room i : ℕ) (d : Entry K) (b : Bool) → i < length us → Ok i ≡ found c us k → eqb (get_or es i d).count 65535 ≡ b → answer c (take n es) k room ≡ cond b (Err (record { reason = TallyFull; place = 0 })) (Ok tt)
  answer_used room i d b h e full =
      answer_at c k (take n es) room i d b (in_use e) (ap (λ (z : Entry K). eqb z.count 65535) (get_or-take n es i d (below i h).0) ∙ full)

  pub bumped_used : (i : ℕ) (x y : Entry K) → i < length us → Ok i ≡ found c us k → take n (set es i (record { key = (get_or es i x).key; count = (get_or es i y).count + 1 })) ≡ added c (take n es) k
  bumped_used i x y h e =
      ap (λ (z : Entry K). take n (set es i (record { key = z.key; count = (get_or es i y).count + 1 }))) (get_or_default es i x y (below i h).1)
      ∙ ap (take n) (bumped_set es i y)
      ∙ take_bumped n es i
      ∙ sym (added_at c k (take n es) i (in_use e))

  pub added_used : (i : ℕ) → Err i ≡ found c us k → added c (take n es) k ≡ take i (take n es) ++ (record { key = k; count = 1 } ∷ drop i (take n es))
  added_used i e = added_gap c k (take n es) i (in_use e)
