use Rattle.std.proofs.Common.{◌≡◌, length}
use Rattle.tally.specs.InUse.{in_use}
use Rattle.tally.specs.Tallies.{tallied}
use Rattle.matching.specs.Orders.{by_cell}
use Rattle.matching.proofs.Adding.{so_far}
use Rattle.matching.proofs.seen.Seen.add_net.Given as goal

abbrev pub invariant-loop-k : goal.invariant-loop-k
invariant-loop-k g l =
    (l.tally.entries.ghost_name ≡ l.initial.tally.entries.ghost_name)
    × (length l.tally.entries.now ≡ length l.initial.tally.entries.now)
    × (in_use l.tally ≡ tallied by_cell (so_far (g.C.Board.means l.self.circuit.now) l.self.start.now l.i l.k))
