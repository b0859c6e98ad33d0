use Rattle.std.proofs.Common.{◌≡◌, length, drop}
use Rattle.circuit.specs.Circuit.{member, are_distinct}
use Rattle.matching.proofs.looks.differ.Given as goal

abbrev pub invariant-loop-first : goal.invariant-loop-first
invariant-loop-first l = are_distinct l.tuple ≡ are_distinct l.rest

abbrev pub decreases-loop-first : goal.decreases-loop-first
decreases-loop-first l = length l.rest

abbrev pub invariant-loop-number : goal.invariant-loop-number
invariant-loop-number l = member l.behind l.first ≡ member (drop l.number-index l.behind) l.first
