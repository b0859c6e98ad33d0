use Rattle.std.proofs.Common.{arith}
use Rattle.labels.specs.Classes.{class}
use Rattle.labels.proofs.Firsts.{written_more}
use Rattle.labels.proofs.labelling.Sides.write.Goals as goal

pub loop-i-preserved : goal.loop-i-preserved
loop-i-preserved g c =
    let s = c.args.self.now in
    let x = c.index-labels-i in
    written_more (class g.L.Label.same s.pattern.now s.board.now) c.args.labels.now c.args.classes.now _ c.loop-i.i _ x.result (omega arith) (omega arith) c.loop-i.invariant x.is c.class_of.ensures
