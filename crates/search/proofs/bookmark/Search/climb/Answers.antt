use Rattle.std.proofs.Common.{◌≡◌, ◌-◌, length, take, sym, ap, ◌∙◌, subst, arith}
use Rattle.std.proofs.lemmas.List.{length-take-le}
use Rattle.circuit.specs.Circuit.{AllBelow}
use Rattle.promise.specs.Search.{raise}
use Rattle.search.specs.Held.{standing, nets}
use Rattle.search.proofs.Raised.{last_lent, set_last, lent, left, below_parts, climb_stops, climb_goes_on}
use Rattle.search.proofs.bookmark.Search.climb.Goals as goal

pub lift-requires : goal.lift-requires
lift-requires c =
    let ls = c.loop-level.self.levels.items in
    let l = c.in-Some.level.now in
    let ys = c.deref_mut.result.now in
    let same = c.deref_mut.ensures.value in
    let last = last_lent ls ys l same c.in-Some.ensures.item.3 in
    let parts = below_parts c.args.span.nets (nets (take (length ls - 1) ls)) l.net (subst (AllBelow c.args.span.nets) last.1 c.loop-level.invariant.2) in
    omega (arith, parts.1)

pub returns-then-level-span-clause-stands : goal.returns-then-level-span-clause-stands
returns-then-level-span-clause-stands c =
    let ls = c.loop-level.self.levels.items in
    let l = c.in-Some.level.now in
    let l' = c.lift.new.self in
    let ys = c.deref_mut.result.now in
    let same = c.deref_mut.ensures.value in
    let last = last_lent ls ys l same c.in-Some.ensures.item.3 in
    let before = nets (take (length ls - 1) ls) in
    ap (λ xs. standing (nets xs)) (lent ls ys l' same)
    ∙ ap standing (set_last ls l' last.0)
    ∙ climb_stops c.args.span.nets before l.net l'.net c.lift.ensures c.if-level-span.true
    ∙ ap (raise c.args.span.nets) (sym last.1)
    ∙ c.loop-level.invariant.0

pub loop-level-preserved : goal.loop-level-preserved
loop-level-preserved c =
    let ls = c.loop-level.self.levels.items in
    let l = c.in-Some.level.now in
    let l' = c.lift.new.self in
    let ys = c.deref_mut.result.now in
    let same = c.deref_mut.ensures.value in
    let last = last_lent ls ys l same c.in-Some.ensures.item.3 in
    let before = nets (take (length ls - 1) ls) in
    let rest = c.pop.ensures.rest ∙ left ls ys l' same in
    let kept : nets c.pop.new.self.items ≡ before = ap nets rest in
    let fewer = ap length rest ∙ length-take-le (length ls - 1) ls (omega (arith, last.0)) in
    let parts = below_parts c.args.span.nets before l.net (subst (AllBelow c.args.span.nets) last.1 c.loop-level.invariant.2) in (
      ap (raise c.args.span.nets) kept
          ∙ climb_goes_on c.args.span.nets before l.net l'.net c.lift.ensures c.if-level-span.false
          ∙ ap (raise c.args.span.nets) (sym last.1)
          ∙ c.loop-level.invariant.0,
      omega (arith, fewer, c.loop-level.invariant.1),
      subst (AllBelow c.args.span.nets) (sym kept) parts.0,
    )
