use Rattle.std.proofs.Common.{ℕ, List, length, refl, ap, ◌∙◌}
use Rattle.std.proofs.lemmas.Bool.Decides.{Decides-like, Decides-at}
use Rattle.circuit.specs.Circuit.{meets_cell_rule}
use Rattle.circuit.proofs.Rule.{cell_rule}
use Rattle.circuit.proofs.Decided.{cell_rule_decided}
use Rattle.pattern.specs.Drawn.{drawn}
use Rattle.pattern.specs.Kept.{drawn_sound}
use Rattle.matching.proofs.start.CellTest.holds.Goals as goal

pub returns-clause-hit : goal.returns-clause-hit
returns-clause-hit g c =
    let p = drawn c.args.p.now in
    let b = g.B.Board.means c.args.b.now in
    let s = c.args.start.now in
    let seen = c.under-board.result.start.now in
    let rule =
    c.cells_agree.ensures
    ∙ ap (λ (x : g.row.B.Denot). meets_cell_rule p (length seen) (g.B.Board.means x) seen) c.under-board.ensures.circuit
    ∙ ap (λ (t : List ℕ). meets_cell_rule p (length t) b t) c.under-board.ensures.start
    in
    λ short below distinct.
    let w = cell_rule p b (drawn_sound c.args.p.now) (g.B.Board.sound c.args.b.now) (length s) s refl below distinct in
    Decides-at c.cells_agree.result (meets_cell_rule p (length s) b s) rule
    (Decides-like (meets_cell_rule p (length s) b s) w.1 w.0 (cell_rule_decided p (length s) b s))
