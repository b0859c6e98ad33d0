use Rattle.std.proofs.Common.{length, ◌∙◌}
use Rattle.matching.proofs.Ruled.{order_is}
use Rattle.matching.proofs.seen.Seen.first_nets_of.Goals as goal

pub returns-clause-start : goal.returns-clause-start
returns-clause-start g c = c.under.ensures.start ∙ order_is (length c.args.self.now.start.now) c.args.self.now.short
