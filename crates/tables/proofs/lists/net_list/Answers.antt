use Rattle.std.proofs.Common.{◌≡◌, ℕ, ◌<◌, ◌≤◌, ◌-◌, min, length, get_or, take, drop, sym, ap, ◌∙◌, arith}
use Rattle.std.proofs.lemmas.Grind.{common_steps}
use Rattle.std.proofs.lemmas.Option.{gets}
use Rattle.tables.specs.Tables.{start}
use Rattle.tables.specs.Cuts.{cuts_at, cuts_past}
use Rattle.tables.proofs.Clipped.{clipped}
use Rattle.tables.proofs.lists.net_list.Goals as goal

pub returns-in_default-clause-list : goal.returns-in_default-clause-list
returns-in_default-clause-list c classes =
    let es = c.args.ends.now in
    let h : length es ≤ c.args.f = grind (arith, common_steps, gets) in
    sym (cuts_past 0 es c.args.joins.now c.args.f h)

pub returns-clause-list : goal.returns-clause-list
returns-clause-list c classes =
    let es = c.args.ends.now in
    let js = c.args.joins.now in
    let f = c.args.f in
    let h : f < length es = grind (arith, common_steps, gets) in
    let e : c.in-Some.end ≡ get_or es f 0 = grind (arith, common_steps, gets) in
    let to : c.min-to.result ≡ min (get_or es f 0) (length js) = c.min-to.ensures ∙ ap (λ (x : ℕ). min x (length js)) e in
    let from : c.min-from.result ≡ min (start es f) (min (get_or es f 0) (length js)) = c.min-from.ensures ∙ ap (λ (x : ℕ). min x c.min-to.result) c.start_of.ensures ∙ ap (min (start es f)) to in
    ap (λ (x : ℕ). take (x - c.min-from.result) (drop c.min-from.result js)) to
    ∙ ap (λ (x : ℕ). take (min (get_or es f 0) (length js) - x) (drop x js)) from
    ∙ clipped (start es f) (get_or es f 0) js
    ∙ sym (cuts_at 0 es js f h)
