use Rattle.std.proofs.Common.{◌≡◌, ◌<◌, ◌≤◌, min, length, get_or, sym, ◌∙◌, ⊎_elim, arith}
use Rattle.std.proofs.lemmas.Bool.{cases_lt, cond-true, cond-false, lt-ltb, le-ltb}
use Rattle.tables.specs.Tables.{start}
use Rattle.tables.specs.Cuts.{end_within}
use Rattle.boards.proofs.flat.FlatBoard.net.Goals as goal

pub returns-clause-place : goal.returns-clause-place
returns-clause-place c =
    let s = c.args.self.now in
    let es = s.tables.ends.now in
    let js = s.tables.joins.now in
    let f = c.args.f in
    c.net.ensures.place ∙ ⊎_elim
    (λ (h : f < length es).
    let t = lt-ltb f (length es) h in
    let r = s.rises f h in
    let w = end_within es js f s.rises s.closes h in
    let m : min (start es f) (min (get_or es f 0) (length js)) ≡ start es f = omega arith in
    cond-true _ _ _ t ∙ m ∙ sym (cond-true _ _ _ t))
    (λ (h : length es ≤ f). let t = le-ltb f (length es) h in cond-false _ _ _ t ∙ sym (cond-false _ _ _ t))
    (cases_lt f (length es))
