use Rattle.std.proofs.Common.{◌≡◌, ℕ, List, map, refl, subst, IfOk, string_bytes, ap, ◌∙◌}
use Rattle.std.proofs.lemmas.Simd.{map-map}
use Rattle.lines.specs.Written.{name_of, line_of}
use Rattle.lines.proofs.names_line.Goals as goal

pub returns : goal.returns
returns c =
    subst (λ (fs : List (List ℕ)). IfOk c.line_of.result (λ s. string_bytes s ≡ line_of fs))
    (ap (map (λ x. name_of x.0)) (c.as_slice.ensures.value ∙ c.in_ok-names.ensures) ∙ map-map _ _ _)
    (c.line_of.ensures (λ x. name_of x.0) (λ x. refl))
