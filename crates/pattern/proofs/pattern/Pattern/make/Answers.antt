use Rattle.std.proofs.Common.{length, lit≤}
use Rattle.pattern.proofs.Few.{joins_few}
use Rattle.pattern.proofs.pattern.Pattern.make.Goals as goal

pub filled-requires-3 : goal.filled-requires-3
filled-requires-3 c =
    let t = c.args.tables in
    let g = c.in_ok-check.ensures in
    (lit≤ tt, joins_few (length t.classes.now) t.ends.now t.joins.now g.spans g.closes g.climbs g.under g.few_parts g.few_nets)
