-- That labels of one class are alike, and alike labels of one class.
use Rattle.std.proofs.Common.{◌≡◌, ℕ, zero, suc, ◌+◌, ◌<◌, ◌≤◌, Bool, true, false, cond, T, ltb, ◌⊎◌, ◌↔◌, List, [], ◌∷◌, map, length, get_or, Ok, sym, refl, ap, ◌∙◌, subst, inl, inr, arith, ltb-false, ltb-true}
use Rattle.std.proofs.lemmas.Float.{T_from_true}
use Rattle.labels.specs.Classes.{first, unfit, class}
use Rattle.std.proofs.lemmas.Bool.Decides.{nat_tests}
use Rattle.labels.specs.Refusals.{verdict}
use Rattle.labels.specs.Likeness.{true_from}
use Rattle.labels.specs.Alike.{In, Tells, alike_to, alike_at, Wrote}

both : (a b : Bool) → (T a → T b) → (T b → T a) → a ≡ b
both true true f g = refl
both true false f g = absurd (f tt)
both false true f g = absurd (g tt)
both false false f g = refl

module _ {L : Type 0} (proper : L → Bool) where
  abbrev Fits : List L → Type 0
  Fits [] = Unit {0}
  Fits (x ∷ xs) = T (proper x) × Fits xs

  pub fits_from : (xs : List L) → length xs ≤ unfit proper xs → Fits xs
  fits_from [] h = tt
  fits_from (x ∷ xs) h = go (proper x) h (fits_from xs)
    where
      go : (b : Bool) → suc (length xs) ≤ cond b (suc (unfit proper xs)) 0 → (length xs ≤ unfit proper xs → Fits xs) → T b × Fits xs
      go true k rest = (tt, rest (omega arith))
      go false k rest = absurd (omega arith)

  pub fit_in : (xs : List L) (x : L) → Fits xs → In x xs → T (proper x)
  fit_in [] x f h = absurd h
  fit_in (y ∷ ys) x f (inl e) = subst (λ z. T (proper z)) (sym e) f.0
  fit_in (y ∷ ys) x f (inr h) = fit_in ys x f.1 h

module _ {L : Type 0} (proper : L → Bool) (same : L → L → Bool)
    (itself : (x : L) → T (proper x) → T (same x x))
    (turned : (x y : L) → T (proper x) → T (proper y) → T (same x y) → T (same y x))
    (chained : (x y z : L) → T (proper x) → T (proper y) → T (proper z) → T (same x y) → T (same y z) → T (same x z)) where
  first_below : (xs : List L) (x : L) → T (same x x) → In x xs → first same xs x < length xs
  first_below [] x t h = absurd h
  first_below (y ∷ ys) x t (inl e) = go (same y x) (subst (λ z. T (same z x)) e t)
    where
      go : (b : Bool) → T b → cond b 0 (suc (first same ys x)) < suc (length ys)
      go true k = omega arith
      go false k = absurd k
  first_below (y ∷ ys) x t (inr h) = go (same y x) (first_below ys x t h)
    where
      go : (b : Bool) → first same ys x < length ys → cond b 0 (suc (first same ys x)) < suc (length ys)
      go true k = omega arith
      go false k = omega arith

  first_meets : (xs : List L) (x y : L) → Fits proper xs → first same xs x ≡ first same xs y → first same xs x < length xs → (z : L) × T (proper z) × T (same z x) × T (same z y)
  first_meets [] x y f e h = absurd (omega arith)
  first_meets (w ∷ ws) x y f e h = go (same w x) (same w y) refl refl e h (first_meets ws x y f.1)
    where
      go : (a b : Bool) → same w x ≡ a → same w y ≡ b → cond a 0 (suc (first same ws x)) ≡ cond b 0 (suc (first same ws y)) → cond a 0 (suc (first same ws x)) < suc (length ws)
          → (first same ws x ≡ first same ws y → first same ws x < length ws → (z : L) × T (proper z) × T (same z x) × T (same z y))
          → (z : L) × T (proper z) × T (same z x) × T (same z y)
      go true true p q k l rest = (w, f.0, subst T (sym p) tt, subst T (sym q) tt)
      go true false p q k l rest = absurd (omega arith)
      go false true p q k l rest = absurd (omega arith)
      go false false p q k l rest = rest (omega arith) (omega arith)

  first_same : (xs : List L) (x y : L) → Fits proper xs → T (proper x) → T (proper y) → T (same x y) → first same xs x ≡ first same xs y
  first_same [] x y f px py h = refl
  first_same (w ∷ ws) x y f px py h =
      let e : same w x ≡ same w y = both (same w x) (same w y) (λ t. chained w x y f.0 px py t h) (λ t. chained w y x f.0 py px t (turned x y px py h)) in
      ap (λ b. cond b 0 (suc (first same ws x))) e ∙ ap (λ n. cond (same w y) 0 (suc n)) (first_same ws x y f.1 px py h)

  module _ (ps bs : List L) (few : length ps ≤ 64) (fp : Fits proper ps) (fb : Fits proper bs) where
    fit_among : (x : L) → In x ps ⊎ In x bs → T (proper x)
    fit_among x (inl h) = fit_in proper ps x fp h
    fit_among x (inr h) = fit_in proper bs x fb h

    meet : (x y : L) → T (proper x) → T (proper y) → (z : L) × T (proper z) × T (same z x) × T (same z y) → T (same x y)
    meet x y px py m = chained x m.0 y px m.1 py (turned m.0 x m.1 px m.2) m.3

    on_board : (x : L) → T (proper x) → In x ps ⊎ In x bs → length ps ≤ first same ps x → first same bs x < length bs
    on_board x px (inl h) k = absurd (let l = first_below ps x (itself x px) h in omega arith)
    on_board x px (inr h) k = first_below bs x (itself x px) h

    same_from : (x y : L) → T (proper x) → T (proper y) → In x ps ⊎ In x bs → class same ps bs x ≡ class same ps bs y → T (same x y)
    same_from x y px py hx e = go (ltb (first same ps x) (length ps)) (ltb (first same ps y) (length ps)) refl refl e
      where
        go : (a b : Bool) → ltb (first same ps x) (length ps) ≡ a → ltb (first same ps y) (length ps) ≡ b
            → cond a (first same ps x) (64 + first same bs x) ≡ cond b (first same ps y) (64 + first same bs y) → T (same x y)
        go true true p q k = meet x y px py (first_meets ps x y fp k (ltb-true _ _ p))
        go true false p q k = let l = ltb-true _ _ p in absurd (omega arith)
        go false true p q k = let l = ltb-true _ _ q in absurd (omega arith)
        go false false p q k = meet x y px py (first_meets bs x y fb (omega arith) (on_board x px hx (ltb-false _ _ p)))

    pub tells : Tells same ps bs
    tells x y hx hy =
        let px = fit_among x hx in
        let py = fit_among y hy in (
          same_from x y px py hx,
          λ t. ap (λ f. cond (ltb f (length ps)) f (64 + first same bs x)) (first_same ps x y fp px py t)
              ∙ ap (λ g. cond (ltb (first same ps y) (length ps)) (first same ps y) (64 + g)) (first_same bs x y fb px py t),
        )

-- the v-th label of ys, where there is one
find_to : {L : Type 0} (same : L → L → Bool) (f : L → ℕ) (x : L) (ys : List L) (v : ℕ) → v < length ys → (y : L) × In y ys × (get_or (map f ys) v 0 ≡ f y) × (alike_to same x ys v ≡ same x y)
find_to same f x [] v l = absurd (omega arith)
find_to same f x (y ∷ ys) zero l = (y, inl refl, refl, refl)
find_to same f x (y ∷ ys) (suc v) l = let (z, i, e, a) = find_to same f x ys v (omega arith) in (z, inr i, e, a)

find_at : {L : Type 0} (same : L → L → Bool) (f : L → ℕ) (xs bs : List L) (u v : ℕ) → u < length xs → (x : L) × In x xs × (get_or (map f xs) u 0 ≡ f x) × (alike_at same xs bs u v ≡ alike_to same x bs v)
find_at same f [] bs u v l = absurd (omega arith)
find_at same f (x ∷ xs) bs zero v l = (x, inl refl, refl, refl)
find_at same f (x ∷ xs) bs (suc u) v l = let (z, i, e, a) = find_at same f xs bs u v (omega arith) in (z, inr i, e, a)

pub agree_at : {L : Type 0} (same : L → L → Bool) (ps bs : List L) → Tells same ps bs → (u v : ℕ) → u < length ps → v < length bs
    → (get_or (map (class same ps bs) ps) u 0 ≡ get_or (map (class same ps bs) bs) v 0) ↔ (alike_at same ps bs u v ≡ true)
agree_at same ps bs tells u v l k =
    let f = class same ps bs in
    let (x, x-in, x-is, a) = find_at same f ps bs u v l in
    let (y, y-in, y-is, d) = find_to same f x bs v k in
    let (one, other) = tells x y (inl x-in) (inr y-in) in
    ((λ e. a ∙ d ∙ true_from (same x y) (one (sym x-is ∙ e ∙ y-is))), (λ e. x-is ∙ other (T_from_true (same x y) (sym d ∙ sym a ∙ e)) ∙ sym y-is))

-- a verdict that refuses nothing passed each test
passed : {L : Type 0} (proper : L → Bool) (ps bs : List L) (m n : ℕ) → verdict proper ps bs m n ≡ Ok tt → (length ps ≤ 64) × (length ps ≤ unfit proper ps) × (length bs ≤ unfit proper bs)
passed proper ps bs m n e = (grind (arith, nat_tests), grind (arith, nat_tests), grind (arith, nat_tests))

pub wrote_tells : {L : Type 0} (proper : L → Bool) (same : L → L → Bool)
    → ((x : L) → T (proper x) → T (same x x))
    → ((x y : L) → T (proper x) → T (proper y) → T (same x y) → T (same y x))
    → ((x y z : L) → T (proper x) → T (proper y) → T (proper z) → T (same x y) → T (same y z) → T (same x z))
    → (ps bs : List L) (pc bc : List ℕ) → Wrote proper same ps bs pc bc → Tells same ps bs
wrote_tells proper same itself turned chained ps bs pc bc w =
    let (few, fp, fb) = passed proper ps bs w.room.0 w.room.1 w.answered in
    tells proper same itself turned chained ps bs few (fits_from proper ps fp) (fits_from proper bs fb)
