use Rattle.std.proofs.Common.{ℕ, ◌≤◌, List, length, refl, ap, ◌∙◌, arith}
use Rattle.std.proofs.lemmas.Bool.{both_ways}
use Rattle.circuit.specs.Circuit.{Circuit, upto}
use Rattle.tally.specs.declared.entry.Entry.{Entry}
use Rattle.tally.specs.Tallies.{tallied}
use Rattle.matching.specs.declared.cell.Cell.{Cell}
use Rattle.matching.specs.Orders.{by_cell}
use Rattle.matching.specs.Keys.{keys}
use Rattle.matching.proofs.Ruled.{sizes_few, sizes_same, sizes_rule, level_rule}
use Rattle.matching.proofs.agree.cells_agree.Goals as goal

-- the cells of a start, counted
abbrev cells_of : Circuit → List ℕ → List (Entry Cell)
cells_of c s = tallied by_cell (keys c s (length s))

pub returns-then-not-same_sizes : goal.returns-then-not-same_sizes
returns-then-not-same_sizes g c =
    let p = g.P.Board.means c.args.p.now in
    let b = g.B.Board.means c.args.board.now.circuit.now in
    let s = c.args.board.now.start.now in
    sizes_rule p b (g.P.Board.sound c.args.p.now) (g.B.Board.sound c.args.board.now.circuit.now) (length s) s refl
    (λ h. both_ways c.same_sizes.result c.if-not-same_sizes.true (c.same_sizes.ensures.1 h))

pub tally-requires : goal.tally-requires
tally-requires g c =
    let r = c.first_nets_of-pattern.result in
    let few : length (g.P.Board.means r.circuit.now).classes ≤ 64 = omega (arith, c.requires.few, ap (λ (x : g.row.P.Denot). length (g.P.Board.means x).classes) c.first_nets_of-pattern.ensures.circuit) in
    let f = sizes_few (g.P.Board.means r.circuit.now) (g.P.Board.sound r.circuit.now) r.start.now (length r.start.now) few in
    record { room = omega (arith, f, r.short, c.requires.pattern_room); low = omega (arith, f, r.short) }

pub tally-requires-2 : goal.tally-requires-2
tally-requires-2 g c =
    let p = g.P.Board.means c.args.p.now in
    let r = c.args.board.now in
    let k = length r.start.now in
    let same = c.same_sizes.ensures.0 c.if-not-same_sizes.false in
    let f = sizes_few p (g.P.Board.sound c.args.p.now) (upto k) k c.requires.few in
    let e = sizes_same p (g.B.Board.means r.circuit.now) r.start.now k k (omega arith) same in
    record { room = omega (arith, e, f, r.short, c.requires.board_room); low = omega (arith, e, f, r.short) }

pub returns : goal.returns
returns g c =
    let p = g.P.Board.means c.args.p.now in
    let b = g.B.Board.means c.args.board.now.circuit.now in
    let s = c.args.board.now.start.now in
    let q = c.first_nets_of-pattern.ensures in
    level_rule p b (g.P.Board.sound c.args.p.now) (g.B.Board.sound c.args.board.now.circuit.now) (length s) s refl _ _
    (c.tally.ensures ∙ ap (λ (x : g.row.P.Denot). cells_of (g.P.Board.means x) c.first_nets_of-pattern.result.start.now) q.circuit ∙ ap (cells_of p) q.start)
    c.tally-2.ensures
    c.agree.result
    c.agree.ensures
