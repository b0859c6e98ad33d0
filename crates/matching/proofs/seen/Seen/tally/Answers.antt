use Rattle.std.proofs.Common.{suc, length, ap, arith}
use Rattle.matching.proofs.Adding.{sizes_up}
use Rattle.matching.proofs.seen.Seen.tally.Goals as goal

pub add_net-requires-clause-room : goal.add_net-requires-clause-room
add_net-requires-clause-room g c =
    let s = c.args.self.now.start.now in
    omega (arith, sizes_up (g.C.Board.means c.args.self.now.circuit.now) s (suc c.loop-i.i) (length s) (omega arith), c.requires.room, c.loop-i.invariant.1, ap length c.over-tally.ensures.room)

pub add_net-requires-clause-low : goal.add_net-requires-clause-low
add_net-requires-clause-low g c =
    let s = c.args.self.now.start.now in
    omega (arith, sizes_up (g.C.Board.means c.args.self.now.circuit.now) s (suc c.loop-i.i) (length s) (omega arith), c.requires.low)
