use Rattle.std.proofs.Common.{map, length, take, drop, ap, ◌∙◌, rules}
use Rattle.std.proofs.lemmas.List.{take_at, length-map}
use Rattle.labels.specs.Classes.{class}
use Rattle.labels.proofs.Tells.{wrote_tells}
use Rattle.labels.proofs.labelling.label_parts.Goals as goal

pub returns-clause-wrote : goal.returns-clause-wrote
returns-clause-wrote g c =
    let ps = c.args.pattern.now in
    let bs = c.args.board.now in
    let f = class g.L.Label.same ps bs in
    let pc = c.args.pattern_classes.now in
    let bc = c.args.board_classes.now in
    λ _. record {
      room = (length pc, length bc);
      answered = search rules;
      pattern = ap (take (length ps)) c.write.ensures ∙ take_at (map f ps) (drop (length ps) pc) (length ps) (length-map ps f);
      board = ap (take (length bs)) c.write-2.ensures ∙ take_at (map f bs) (drop (length bs) bc) (length bs) (length-map bs f);
    }

pub returns-clause-tells : goal.returns-clause-tells
returns-clause-tells g c =
    let m = g.met.L.Label in
    λ ok. wrote_tells g.L.Label.proper g.L.Label.same m.itself m.turned m.chained c.args.pattern.now c.args.board.now _ _ (returns-clause-wrote g c ok)
