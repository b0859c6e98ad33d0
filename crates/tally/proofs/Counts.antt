-- Counts after any number of keys; room for each.
use Rattle.std.proofs.Common.{◌≡◌, ℕ, suc, ◌+◌, ◌<◌, ◌≤◌, false, cond, eqb, leb, ◌⊎◌, List, [], ◌∷◌, ◌++◌, length, get_or, is_ok, Ok, Err, Result, Ordering, Less, Equal, Greater, sym, refl, ap, ◌∙◌, subst, inl, inr, ⊎_elim, arith}
use Rattle.std.specs.List.{AllByRecursion}
use Rattle.std.proofs.ByRecursion.{All-weaker}
use Rattle.std.proofs.lemmas.Bool.{ne_eqb, lt-leb}
use Rattle.std.specs.Ordering.{ordering_reverse}
use Rattle.std.specs.Cmp.{IsTotalOrder, alike_right}
use Rattle.tally.specs.declared.entry.Entry.{Entry}
use Rattle.circuit.specs.declared.refusal.Reason.TheVariants.{TallyFull}
use Rattle.circuit.specs.declared.refusal.Refusal.{Refusal}
use Rattle.tally.specs.Tallies.{by, by_found, found, answer, counted, added, bump, tallied, tallied_on}
use Rattle.tally.specs.Levels.{LevelOn, times, Roomy}

less_equal : Less ≡ Equal → ⊥
less_equal e = let z : ◌≡◌ {A = ℕ} 0 1 = cc in omega arith

module _ {K : Type 0} {R : K → K → Ordering} (o : IsTotalOrder R) where
  -- below one that is below
  chain : (e k j : K) → R e k ≡ Greater → R k j ≡ Greater → R e j ≡ Greater
  chain e k j p q =
      let a : R j k ≡ Less = o.antisymm j k ∙ ap ordering_reverse q in
      let b : R k e ≡ Less = o.antisymm k e ∙ ap ordering_reverse p in
      o.antisymm e j ∙ ap ordering_reverse (o.trans j k e a b)

  -- adding a key raises its count by one and leaves every other key's
  pub counted_added : (es : List (Entry K)) (k j : K) → counted R (added R es k) j ≡ by (R k j) 0 1 0 + counted R es j
  counted_added [] k j = go (R k j)
    where
      go : (r : Ordering) → by r 0 1 0 ≡ by r 0 1 0 + 0
      go Less = refl
      go Equal = refl
      go Greater = refl
  counted_added (e ∷ es) k j = go (R e.key k) (R e.key j) (R k j) refl refl refl (counted_added es k j)
    where
      n : ℕ
      n = counted R es j

      less : (r₂ r₃ : Ordering) (m : ℕ) → R e.key k ≡ Less → R e.key j ≡ r₂ → R k j ≡ r₃ → m ≡ by r₃ 0 1 0 + n → by r₂ m e.count 0 ≡ by r₃ 0 1 0 + by r₂ n e.count 0
      less Less r₃ m p q s i = i
      less Equal Less m p q s i = omega arith
      less Equal Equal m p q s i = absurd (less_equal (sym p ∙ alike_right o k j e.key s ∙ q))
      less Equal Greater m p q s i = omega arith
      less Greater Less m p q s i = refl
      less Greater Equal m p q s i = let z : Less ≡ Greater = sym p ∙ alike_right o k j e.key s ∙ q in let w : ◌≡◌ {A = ℕ} 0 1 = cc in absurd (omega arith)
      less Greater Greater m p q s i = refl

      same : (r : Ordering) → by r n (e.count + 1) 0 ≡ by r 0 1 0 + by r n e.count 0
      same Less = omega arith
      same Equal = omega arith
      same Greater = refl

      more : (r₂ r₃ : Ordering) → R e.key k ≡ Greater → R e.key j ≡ r₂ → R k j ≡ r₃ → by r₃ (by r₂ n e.count 0) 1 0 ≡ by r₃ 0 1 0 + by r₂ n e.count 0
      more r₂ Less p q s = omega arith
      more r₂ Equal p q s = let z : r₂ ≡ Greater = sym q ∙ sym (alike_right o k j e.key s) ∙ p in rw z
      more r₂ Greater p q s = let z : r₂ ≡ Greater = sym q ∙ chain e.key k j p s in rw z

      go :
          (r₁ r₂ r₃ : Ordering) → R e.key k ≡ r₁ → R e.key j ≡ r₂ → R k j ≡ r₃ →
          counted R (added R es k) j ≡ by (R k j) 0 1 0 + n →
          counted R (by r₁ (e ∷ added R es k) (bump e ∷ es) (record { key = k; count = 1 } ∷ e ∷ es)) j ≡ by r₃ 0 1 0 + by r₂ n e.count 0
      go Less r₂ r₃ p q s i =
          ap (λ r. by r (counted R (added R es k) j) e.count 0) q
          ∙ less r₂ r₃ (counted R (added R es k) j) p q s (i ∙ ap (λ r. by r 0 1 0 + n) s)
      go Equal r₂ r₃ p q s i =
          let z : r₂ ≡ r₃ = sym q ∙ o.congr e.key k j p ∙ s in
          ap (λ r. by r n (e.count + 1) 0) q ∙ same r₂ ∙ ap (λ r. by r 0 1 0 + by r₂ n e.count 0) z
      go Greater r₂ r₃ p q s i =
          ap (λ r. by r (by (R e.key j) n e.count 0) 1 0) s
          ∙ ap (λ r. by r₃ (by r n e.count 0) 1 0) q
          ∙ more r₂ r₃ p q s

  pub counted_tallied_on : (es : List (Entry K)) (ks : List K) (j : K) → counted R (tallied_on R es ks) j ≡ times R ks j + counted R es j
  counted_tallied_on es [] j = omega arith
  counted_tallied_on es (k ∷ ks) j =
      let i = counted_tallied_on (added R es k) ks j in
      let a = counted_added es k j in
      omega arith

  pub counted_tallied : (ks : List K) (j : K) → counted R (tallied R ks) j ≡ times R ks j
  counted_tallied ks j = let i = counted_tallied_on [] ks j in omega arith

module _ {K : Type 0} (c : K → K → Ordering) where
  pub tallied_push : (es : List (Entry K)) (ks : List K) (k : K) → tallied_on c es (ks ++ k ∷ []) ≡ added c (tallied_on c es ks) k
  tallied_push es [] k = refl
  tallied_push es (x ∷ ks) k = tallied_push (added c es x) ks k

  pub times_append : (xs ys : List K) (j : K) → times c (xs ++ ys) j ≡ times c xs j + times c ys j
  times_append [] ys j = omega arith
  times_append (x ∷ xs) ys j = let i = times_append xs ys j in omega arith

  -- ## Room

  added_few : (es : List (Entry K)) (k : K) → length (added c es k) ≤ length es + 1
  added_few [] k = omega arith
  added_few (e ∷ es) k = go (c e.key k) (added_few es k)
    where
      go : (r : Ordering) → length (added c es k) ≤ length es + 1 → length (by r (e ∷ added c es k) (bump e ∷ es) (record { key = k; count = 1 } ∷ e ∷ es)) ≤ length (e ∷ es) + 1
      go Less i = omega arith
      go Equal i = omega arith
      go Greater i = omega arith

  abbrev Low : ℕ → List (Entry K) → Type 0
  Low n es = AllByRecursion (λ (e : Entry K). e.count ≤ n) es

  low_more : (n : ℕ) (es : List (Entry K)) → Low n es → Low (n + 1) es
  low_more n es h = All-weaker (λ (e : Entry K). e.count ≤ n) (λ (e : Entry K). e.count ≤ n + 1) (λ e l. omega arith) es h

  added_low : (n : ℕ) (es : List (Entry K)) (k : K) → Low n es → Low (n + 1) (added c es k)
  added_low n [] k h = (omega arith, tt)
  added_low n (e ∷ es) k (h, t) = go (c e.key k) (added_low n es k t)
    where
      go : (r : Ordering) → Low (n + 1) (added c es k) → Low (n + 1) (by r (e ∷ added c es k) (bump e ∷ es) (record { key = k; count = 1 } ∷ e ∷ es))
      go Less i = (omega arith, i)
      go Equal i = (omega arith, low_more n es t)
      go Greater i = (omega arith, (omega arith, low_more n es t))

  pub roomy_added : (n : ℕ) (es : List (Entry K)) (k : K) → Roomy n es → Roomy (n + 1) (added c es k)
  roomy_added n es k h = record { few = let a = added_few es k in let b = h.few in omega arith; low = added_low n es k h.low }

  pub roomy_on : (n : ℕ) (es : List (Entry K)) (ks : List K) → Roomy n es → Roomy (n + length ks) (tallied_on c es ks)
  roomy_on n es [] h = let z : n ≡ n + 0 = omega arith in subst (λ (m : ℕ). Roomy m es) z h
  roomy_on n es (k ∷ ks) h =
      let i = roomy_on (n + 1) (added c es k) ks (roomy_added n es k h) in
      let z : n + 1 + length ks ≡ n + suc (length ks) = omega arith in
      subst (λ (m : ℕ). Roomy m (tallied_on c (added c es k) ks)) z i

  pub roomy : (ks : List K) → Roomy (length ks) (tallied c ks)
  roomy ks =
      let z : 0 + length ks ≡ length ks = omega arith in
      subst (λ (m : ℕ). Roomy m (tallied c ks)) z (roomy_on 0 [] ks (record { few = omega arith; low = tt }))

  -- what is counted is at most the bound
  counted_low : (n : ℕ) (es : List (Entry K)) (k : K) → Low n es → counted c es k ≤ n
  counted_low n [] k h = omega arith
  counted_low n (e ∷ es) k (h, t) = go (c e.key k) (counted_low n es k t)
    where
      go : (r : Ordering) → counted c es k ≤ n → by r (counted c es k) e.count 0 ≤ n
      go Less i = i
      go Equal i = h
      go Greater i = omega arith

  -- no refusal where there is room
  pub answer_room : (n room : ℕ) (es : List (Entry K)) (k : K) → Roomy n es → n < room → n < 65535 → answer c es k room ≡ Ok tt
  answer_room n room es k h l m = ap (λ t. cond t (Err (record { reason = TallyFull; place = 0 })) (Ok tt)) (go (found c es k))
    where
      go : (f : Result ℕ ℕ) → by_found f (eqb (counted c es k) 65535) (leb room (length es)) ≡ false
      go (Ok i) = let b = counted_low n es k h.low in ne_eqb (counted c es k) 65535 (λ e. omega arith)
      go (Err i) = let b = h.few in lt-leb room (length es) (omega arith)

-- ## The same counts at the keys that came are the same counts at every key

module _ {K : Type 0} {R : K → K → Ordering} (o : IsTotalOrder R) where
  counted_alike : (es : List (Entry K)) (x y : K) → R x y ≡ Equal → counted R es x ≡ counted R es y
  counted_alike [] x y e = refl
  counted_alike (z ∷ es) x y e =
      let i = counted_alike es x y e in
      ap (λ r. by r (counted R es x) z.count 0) (alike_right o x y z.key e)
      ∙ ap (λ (m : ℕ). by (R z.key y) m z.count 0) i

  -- a key that came stands at some place
  stands : (es : List (Entry K)) (k : K) → (counted R es k ≡ 0) ⊎ ((i : ℕ) × (i < length es) × ((d : Entry K) → R (get_or es i d).key k ≡ Equal))
  stands [] k = inl refl
  stands (e ∷ es) k = go (R e.key k) refl (stands es k)
    where
      go :
          (r : Ordering) → R e.key k ≡ r →
          (counted R es k ≡ 0) ⊎ ((i : ℕ) × (i < length es) × ((d : Entry K) → R (get_or es i d).key k ≡ Equal)) →
          (by r (counted R es k) e.count 0 ≡ 0) ⊎ ((i : ℕ) × (i < suc (length es)) × ((d : Entry K) → R (get_or (e ∷ es) i d).key k ≡ Equal))
      go Less p (inl z) = inl z
      go Less p (inr (i, l, q)) = inr (suc i, omega arith, q)
      go Equal p rest = inr (0, omega arith, λ d. p)
      go Greater p rest = inl refl

  pub level_all : (xs ys : List (Entry K)) → LevelOn R xs xs ys → LevelOn R ys xs ys → (k : K) → counted R xs k ≡ counted R ys k
  level_all xs ys a b k = ⊎_elim none (λ (i, l, q). there xs a i l q) (stands xs k)
    where
      there : (es : List (Entry K)) → LevelOn R es xs ys → (i : ℕ) → i < length es → ((d : Entry K) → R (get_or es i d).key k ≡ Equal) → counted R xs k ≡ counted R ys k
      there es h i l q =
          let d : Entry K = record { key = k; count = 0 } in
          sym (counted_alike xs (get_or es i d).key k (q d)) ∙ h i d l ∙ counted_alike ys (get_or es i d).key k (q d)

      none : counted R xs k ≡ 0 → counted R xs k ≡ counted R ys k
      none z = ⊎_elim (λ w. z ∙ sym w) (λ (i, l, q). there ys b i l q) (stands ys k)

-- one key more for which there is room
pub put_more : {K : Type 0} (c : K → K → Ordering) (ks : List K) (k : K) (es es' : List (Entry K)) (room : ℕ) → es ≡ tallied c ks → answer c es k room ≡ Ok tt
    → es' ≡ cond (is_ok (answer c es k room)) (added c es k) es → es' ≡ tallied c (ks ++ k ∷ [])
put_more c ks k es es' room e fits a =
    a ∙ ap (λ (r : Result (Unit {0}) Refusal). cond (is_ok r) (added c es k) es) fits
    ∙ ap (λ (z : List (Entry _)). added c z k) e
    ∙ sym (tallied_push c [] ks k)
