use Rattle.std.proofs.Common.{◌≡◌, length}
use Rattle.tally.specs.InUse.{in_use}
use Rattle.tally.specs.Tallies.{tallied}
use Rattle.matching.specs.Orders.{by_cell}
use Rattle.matching.specs.Keys.{keys}
use Rattle.matching.proofs.seen.Seen.tally.Given as goal

abbrev pub invariant-loop-i : goal.invariant-loop-i
invariant-loop-i g l =
    (l.tally.entries.ghost_name ≡ l.initial.tally.entries.ghost_name)
    × (length l.tally.entries.now ≡ length l.initial.tally.entries.now)
    × (in_use l.tally ≡ tallied by_cell (keys (g.C.Board.means l.self.circuit.now) l.self.start.now l.i))
