-- Enough tries lead to the end: a start has a value below (N + 1) ^ m, and each try raises it.
use Rattle.std.proofs.Common.{◌≡◌, ℕ, zero, suc, ◌+◌, ◌*◌, ◌^◌, ◌<◌, ◌≤◌, ltb, ◌⊎◌, List, [], ◌∷◌, length, refl, ap, inl, inr, mul-le-mul_right, suc-mul, arith}
use native.Mathlib.Nat.{pow-succ', one-le-pow}
use Rattle.std.proofs.lemmas.Bool.{cond_both, ltb-true}
use Rattle.circuit.specs.Circuit.{AllBelow}
use Rattle.promise.specs.Order.{◌≺◌, Mark, at, end, Before}
use Rattle.promise.specs.Search.{Rules, Start, tried, after, opening}
use Rattle.promise.proofs.Steps.{Valid, tried_valid, tried_past}

-- the start as a number of d digits in base N + 1, where a digit of 0 stands for none
unfoldable pub value : ℕ → ℕ → List ℕ → ℕ
value N d [] = 0
value N zero (x ∷ xs) = 0
value N (suc d) (x ∷ xs) = suc x * (N + 1) ^ d + value N d xs

pub value_below : (N d : ℕ) (s : List ℕ) → AllBelow N s → length s ≤ d → value N d s < (N + 1) ^ d
unfolding value
value_below N d [] b l = one-le-pow d (N + 1) (omega arith)
value_below N zero (x ∷ xs) b l = absurd (omega arith)
value_below N (suc d) (x ∷ xs) b l =
    let P = (N + 1) ^ d in
    let under = value_below N d xs b.1 (omega arith) in
    let x_below : suc (suc x) ≤ N + 1 = omega (arith, b.0) in
    let most : suc (suc x) * P ≤ (N + 1) * P = mul-le-mul_right P x_below in
    omega (arith, suc-mul (suc x) P, pow-succ' (N + 1) d)

value_less : (N d : ℕ) (s t : List ℕ) → AllBelow N s → AllBelow N t → length s ≤ d → length t ≤ d → s ≺ t → value N d s < value N d t
unfolding value
value_less N d [] [] bs bt ls lt p = absurd p
value_less N zero [] (y ∷ ys) bs bt ls lt p = absurd (omega arith)
value_less N (suc d) [] (y ∷ ys) bs bt ls lt p =
    omega (arith, suc-mul y ((N + 1) ^ d), one-le-pow d (N + 1) (omega arith))
value_less N d (x ∷ xs) [] bs bt ls lt p = absurd p
value_less N zero (x ∷ xs) (y ∷ ys) bs bt ls lt p = absurd (omega arith)
value_less N (suc d) (x ∷ xs) (y ∷ ys) bs bt ls lt (inl h) =
    let P = (N + 1) ^ d in
    let under = value_below N d xs bs.1 (omega arith) in
    let up : suc x * P ≤ y * P = mul-le-mul_right P h in
    omega (arith, suc-mul y P)
value_less N (suc d) (x ∷ xs) (y ∷ ys) bs bt ls lt (inr e) =
    let P = (N + 1) ^ d in
    let rest = value_less N d xs ys bs.1 bt.1 (omega arith) (omega arith) e.1 in
    let same : suc x * P ≡ suc y * P = ap (λ i. suc i * P) e.0 in
    omega arith

module _ (R : Rules) where
  unfoldable pub worth : Mark → ℕ
  worth (at s) = value R.N R.m s
  worth end = (R.N + 1) ^ R.m

  -- a try raises the value
  less_than : (s : List ℕ) (k : Mark) → Start R s → Valid R k → Before s k → value R.N R.m s < worth k
  unfolding worth
  less_than s (at u) v w p = value_less R.N R.m s u v.below w.below v.few w.few p
  less_than s end v w p = value_below R.N R.m s v.below v.few

  after_end : (t : ℕ) → after R t end ≡ end
  after_end zero = refl
  after_end (suc t) = after_end t

  pub climbs : (t : ℕ) (k : Mark) → Valid R k → (after R t k ≡ end) ⊎ ((s : List ℕ) × (after R t k ≡ at s) × Start R s × (t + worth k ≤ worth (at s)))
  unfolding worth
  climbs zero (at s) v = inr (s, refl, v, omega arith)
  climbs zero end v = inl refl
  climbs (suc t) (at s) v = go (climbs t (tried R (at s)) (tried_valid R s v))
    where
      up : value R.N R.m s < worth (tried R (at s))
      up = less_than s (tried R (at s)) v (tried_valid R s v) (tried_past R s)

      go : (after R t (tried R (at s)) ≡ end) ⊎ ((u : List ℕ) × (after R t (tried R (at s)) ≡ at u) × Start R u × (t + worth (tried R (at s)) ≤ worth (at u)))
          → (after R t (tried R (at s)) ≡ end) ⊎ ((u : List ℕ) × (after R t (tried R (at s)) ≡ at u) × Start R u × (suc t + worth (at s) ≤ worth (at u)))
      go (inl e) = inl e
      go (inr c) = inr (c.0, c.1, c.2, omega (arith, c.3, up))
  climbs (suc t) end v = inl (after_end t)

  pub opening_valid : 1 ≤ R.m → Valid R (opening R)
  opening_valid h =
      cond_both (ltb 0 R.N) _ _ (Valid R) (λ e. record { some = omega arith; few = h; below = (ltb-true 0 R.N e, tt) }) (λ e. tt)

  pub ends : 1 ≤ R.m → after R ((R.N + 1) ^ R.m) (opening R) ≡ end
  unfolding worth
  ends h = go (climbs ((R.N + 1) ^ R.m) (opening R) (opening_valid h))
    where
      T : ℕ
      T = (R.N + 1) ^ R.m

      go : (after R T (opening R) ≡ end) ⊎ ((s : List ℕ) × (after R T (opening R) ≡ at s) × Start R s × (T + worth (opening R) ≤ worth (at s))) → after R T (opening R) ≡ end
      go (inl e) = e
      go (inr c) = absurd (omega (arith, value_below R.N R.m c.0 c.2.below c.2.few, c.3))
