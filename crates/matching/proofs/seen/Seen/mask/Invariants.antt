use Rattle.std.proofs.Common.{◌≡◌, take}
use Rattle.circuit.specs.Circuit.{mask}
use Rattle.matching.proofs.seen.Seen.mask.Given as goal

abbrev pub invariant-loop-i : goal.invariant-loop-i
invariant-loop-i g l = l.mask ≡ mask (g.C.Board.means l.self.circuit.now) (take l.i l.self.start.now) l.v
