use Rattle.pattern.proofs.Wholeness.{whole}
use Rattle.pattern.proofs.laws.patterns_are_whole.Goals as goal

pub returns : goal.returns
returns c = whole c.args.pattern.now
