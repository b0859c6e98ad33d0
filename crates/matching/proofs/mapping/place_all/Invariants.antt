use Rattle.std.proofs.Common.{◌≡◌, ◌++◌, length, drop}
use Rattle.circuit.specs.Circuit.{N}
use Rattle.pattern.specs.Drawn.{drawn}
use Rattle.matching.proofs.Placing.{done, Marked}
use Rattle.matching.proofs.mapping.place_all.Given as goal

abbrev pub invariant-loop-u : goal.invariant-loop-u
invariant-loop-u g l =
    (l.guard.bytes.ghost_name ≡ l.initial.guard.bytes.ghost_name)
    × (length l.guard.bytes.now ≡ length l.initial.guard.bytes.now)
    × (l.out ≡ done (drawn l.p) (N (drawn l.p)) (g.B.Board.means l.board.circuit.now) l.board.start.now l.u ++ drop l.u l.initial.out)
    × Marked (drawn l.p) (N (drawn l.p)) (g.B.Board.means l.board.circuit.now) l.board.start.now l.u l.guard.bytes.now
