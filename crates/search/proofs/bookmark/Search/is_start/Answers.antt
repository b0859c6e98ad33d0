use Rattle.std.proofs.Common.{◌<◌, ◌≤◌, Bool, ◌&&◌, ltb, leb, length, sym, ap, ◌∙◌, rules}
use Rattle.std.proofs.lemmas.Bool.{lt-ltb, le-leb}
use Rattle.std.proofs.lemmas.Iterator.{YieldsList-from_slice}
use Rattle.std.proofs.lemmas.Iterator.Search.{all_from_yields_List}
use borrow.Author.Tests.{tests}
use Rattle.circuit.specs.Circuit.{are_below}
use Rattle.search.specs.Held.{held}
use Rattle.search.specs.declared.bookmark.Level.{Level}
use Rattle.search.proofs.Raised.{levels_below}
use Rattle.search.proofs.bookmark.Search.is_start.Goals as goal
use Rattle.search.proofs.bookmark.Search.is_start.Goals.{then-not-is_empty, else-not-is_empty}

pub returns-then-len-span : goal.returns-then-len-span
returns-then-len-span c =
    let q = c.args.self.now in
    let N = c.args.span.nets in
    let used = q.levels.items in
    let n = length used in
    let inside : (0 < n) × (n ≤ c.args.span.m) =
    elim c.if-not-is_empty.branch
    [ then-not-is_empty w ↦ (search rules, search rules) | else-not-is_empty w ↦ search rules ]
    in
    all_from_yields_List (λ (l : Level). ltb l.net N) _ _ c.all.result c.all.ensures.ran (YieldsList-from_slice used (cc)) (λ x b r k. search (rules, tests))
    ∙ levels_below N used
    ∙ sym (ap (λ (t : Bool). t && (leb n c.args.span.m && are_below N (held q))) (lt-ltb 0 n inside.0)
    ∙ ap (λ (t : Bool). t && are_below N (held q)) (le-leb n c.args.span.m inside.1))
