use Rattle.std.proofs.Common.{◌≡◌, drop}
use Rattle.tally.specs.Tallies.{found, shift}
use Rattle.tally.proofs.ops.find.Given as goal

abbrev pub invariant-loop-i : goal.invariant-loop-i
invariant-loop-i g l = found g.K.Ord.cmp l.entries l.key ≡ shift l.i (found g.K.Ord.cmp (drop l.i l.entries) l.key)
