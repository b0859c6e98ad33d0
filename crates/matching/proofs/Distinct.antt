-- Whether a number stands behind another, looked at one by one.
use Rattle.std.proofs.Common.{◌≡◌, ℕ, ◌+◌, ◌<◌, ◌≤◌, true, false, ◌||◌, List, length, get_or, drop, ap, ◌∙◌, eq-eqb, ne_eqb}
use Rattle.std.proofs.lemmas.List.{drop_more, drop_all}
use Rattle.circuit.specs.Circuit.{member}

module _ (v : ℕ) (xs : List ℕ) (i : ℕ) where
  pub comes_here : i < length xs → get_or xs i 0 ≡ v → member (drop i xs) v ≡ true
  comes_here h e = ap (λ ys. member ys v) (drop_more xs i 0 h) ∙ ap (λ b. b || member (drop (i + 1) xs) v) (eq-eqb (get_or xs i 0) v e)

  pub comes_later : i < length xs → (get_or xs i 0 ≡ v → ⊥) → member (drop i xs) v ≡ member (drop (i + 1) xs) v
  comes_later h e = ap (λ ys. member ys v) (drop_more xs i 0 h) ∙ ap (λ b. b || member (drop (i + 1) xs) v) (ne_eqb (get_or xs i 0) v e)

  pub comes_no_more : length xs ≤ i → member (drop i xs) v ≡ false
  comes_no_more h = ap (λ ys. member ys v) (drop_all i xs h)
