use denote.Shadow.{shadow}
use denote.Text.{Utf8}
use Rattle.std.proofs.Common.{◌≡◌, ℕ, cond, eqb, List, [], ◌∷◌, map, take, Some, string_bytes}
use Rattle.lines.specs.Written.{spaced}
use Rattle.lines.proofs.line_of.Given as goal

abbrev pub invariant-loop-item : goal.invariant-loop-item
invariant-loop-item g l =
    shadow (Utf8 l.gap)
    × (l.gap ≡ cond (eqb l.item-index 0) [] (32 ∷ []))
    × ((text : g.row.T.Denot → List ℕ) → ((x : g.row.T.Denot) → g.T.Display.output x ≡ Some (text x)) → string_bytes l.line ≡ spaced (map text (take l.item-index l.items)))
