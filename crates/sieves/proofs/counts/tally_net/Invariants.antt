use Rattle.std.proofs.Common.{◌≡◌, map, length, take}
use Rattle.circuit.specs.Circuit.{net, class}
use Rattle.tally.specs.InUse.{in_use}
use Rattle.tally.specs.Tallies.{tallied}
use Rattle.sieves.proofs.counts.tally_net.Given as goal
use Rattle.std.specs.Ordering.{nat_cmp}

abbrev pub invariant-loop-k : goal.invariant-loop-k
invariant-loop-k g l =
    let c = g.C.Board.means l.c in
    (l.tally.entries.ghost_name ≡ l.initial.tally.entries.ghost_name)
    × (length l.tally.entries.now ≡ length l.initial.tally.entries.now)
    × (in_use l.tally ≡ tallied nat_cmp (map (class c) (take l.k (net c l.f))))
