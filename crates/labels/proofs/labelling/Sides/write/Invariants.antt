use Rattle.std.proofs.Common.{◌≡◌, ◌++◌, map, take, drop}
use Rattle.labels.specs.Classes.{class}
use Rattle.labels.proofs.labelling.Sides.write.Given as goal

abbrev pub invariant-loop-i : goal.invariant-loop-i
invariant-loop-i g l =
    l.classes ≡ map (class g.L.Label.same l.self.pattern.now l.self.board.now) (take l.i l.labels) ++ drop l.i l.initial.classes
