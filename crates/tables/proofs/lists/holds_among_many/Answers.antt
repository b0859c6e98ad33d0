use Rattle.std.proofs.Common.{◌∙◌}
use Rattle.tables.proofs.Looks.{list_any_member}
use Rattle.tables.proofs.lists.holds_among_many.Goals as goal

pub returns : goal.returns
returns c = c.contains.ensures.value ∙ list_any_member c.args.parts.now c.args.v
