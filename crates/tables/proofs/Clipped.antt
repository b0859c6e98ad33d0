-- A part of the joins that is cut to what there is.
use Rattle.std.proofs.Common.{◌≡◌, ℕ, ◌-◌, ◌<◌, ◌≤◌, min, List, [], length, take, drop, sym, ap, ◌∙◌, ⊎_elim, arith, length-drop}
use Rattle.std.proofs.lemmas.List.{take_all, drop_all}
use Rattle.std.proofs.lemmas.Bool.{cases_lt}

nothing : (n : ℕ) (xs : List ℕ) → n ≡ 0 → take n xs ≡ []
nothing n xs e = ap (λ (k : ℕ). take k xs) e

take_none : (n : ℕ) (xs : List ℕ) → xs ≡ [] → take n xs ≡ []
take_none n xs e = take_all n xs (omega (arith, ap length e)) ∙ e

pub clipped : (s e : ℕ) (js : List ℕ) → take (min e (length js) - min s (min e (length js))) (drop (min s (min e (length js))) js) ≡ take (e - s) (drop s js)
clipped s e js =
    ⊎_elim
    (λ (h : s < e).
    ⊎_elim
    (λ (l : s < length js).
    let from : min s (min e (length js)) ≡ s = omega arith in
    ap (λ (k : ℕ). take (min e (length js) - k) (drop k js)) from
    ∙ ⊎_elim
    (λ (q : e < length js). let to : min e (length js) ≡ e = omega arith in ap (λ (k : ℕ). take (k - s) (drop s js)) to)
    (λ (q : length js ≤ e).
    let d = length-drop s js in
    take_all (min e (length js) - s) (drop s js) (omega arith) ∙ sym (take_all (e - s) (drop s js) (omega arith)))
    (cases_lt e (length js)))
    (λ (l : length js ≤ s).
    nothing (min e (length js) - min s (min e (length js))) _ (omega arith)
    ∙ sym (take_none (e - s) (drop s js) (drop_all s js l)))
    (cases_lt s (length js)))
    (λ (h : e ≤ s). nothing (min e (length js) - min s (min e (length js))) _ (omega arith) ∙ sym (nothing (e - s) _ (omega arith)))
    (cases_lt s e)
