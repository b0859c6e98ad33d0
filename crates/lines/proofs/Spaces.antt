-- One field more in a line.
use Rattle.std.proofs.Common.{◌≡◌, ℕ, ◌+◌, ◌<◌, cond, eqb, List, [], ◌∷◌, ◌++◌, map, get_or, length, take, sym, ap, ◌∙◌, append-nil, arith, eq-eqb, ne_eqb}
use Rattle.std.proofs.lemmas.Grind.{common_steps}
use Rattle.std.proofs.lemmas.List.{flat_map_more, map_more, length-map, length-take-le}
use Rattle.sheets.specs.declared.fault.Fault.{Fault}
use Rattle.sheets.specs.Faults.{fault_text}
use Rattle.lines.specs.Written.{spaced, fault_line}

-- every field but the first goes after a space
pub spaced_push : (fs : List (List ℕ)) (g gap : List ℕ) (i : ℕ) → length fs ≡ i → gap ≡ cond (eqb i 0) [] (32 ∷ []) → spaced fs ++ (gap ++ g) ≡ spaced (fs ++ g ∷ [])
spaced_push [] g gap i e h = ap (λ z. z ++ g) (h ∙ ap (λ b. cond b [] (32 ∷ [])) (eq-eqb i 0 (sym e))) ∙ sym (append-nil g)
spaced_push (f ∷ fs) g gap i e h =
    let spaced_field : gap ++ g ≡ 32 ∷ g = ap (λ z. z ++ g) (h ∙ ap (λ b. cond b [] (32 ∷ [])) (ne_eqb i 0 (λ z. omega arith))) in
    ap (λ z. spaced (f ∷ fs) ++ z) spaced_field ∙ flat_map_more (λ k. 32 ∷ k) f fs g

pub item_more : {T : Type 0} (text : T → List ℕ) (xs : List T) (i : ℕ) (x : T) (gap : List ℕ) → i < length xs → x ≡ get_or xs i x → gap ≡ cond (eqb i 0) [] (32 ∷ [])
    → spaced (map text (take i xs)) ++ (gap ++ text x) ≡ spaced (map text (take (i + 1) xs))
item_more text xs i x gap h is e =
    spaced_push (map text (take i xs)) (text x) gap i (length-map (take i xs) text ∙ length-take-le i xs (omega arith)) e
    ∙ ap spaced (ap (λ y. map text (take i xs) ++ text y ∷ []) is ∙ sym (map_more text xs i x h))

-- a fault's text with the line's end is its line
pub fault_ended : (f : Fault) → fault_text f ++ 10 ∷ [] ≡ fault_line f
fault_ended f = grind (arith, common_steps)
