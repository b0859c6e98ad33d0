use Rattle.std.proofs.Common.{ℕ, ◌==◌, ◌∙◌, rules}
use Rattle.std.proofs.lemmas.Iterator.{YieldsList-from_slice}
use Rattle.std.proofs.lemmas.Iterator.Search.{any_from_yields_List}
use borrow.Author.Tests.{tests}
use Rattle.tables.proofs.Looks.{list_any_member}
use Rattle.tables.proofs.lists.holds.Goals as goal

pub returns-then-parts-lt-FEW_PARTS : goal.returns-then-parts-lt-FEW_PARTS
returns-then-parts-lt-FEW_PARTS c =
    any_from_yields_List (λ (part : ℕ). part == c.args.v) _ _ c.any.result c.any.ensures.ran (YieldsList-from_slice c.args.parts.now (cc)) (λ x b r k. search (rules, tests))
    ∙ list_any_member c.args.parts.now c.args.v
