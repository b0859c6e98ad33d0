use Rattle.std.proofs.Common.{◌<◌, ◌∷◌, [], sym, ap, ◌∙◌, subst, arith}
use Rattle.std.proofs.lemmas.List.{map-append}
use Rattle.circuit.specs.Circuit.{AllBelow}
use Rattle.promise.proofs.Order.{all_below_push}
use Rattle.promise.proofs.Steps.{some_net}
use Rattle.search.specs.Held.{held, nets}
use Rattle.search.specs.declared.bookmark.Level.{Level}
use Rattle.search.proofs.Stands.{held_long}
use Rattle.search.proofs.Raised.{climb_below}
use Rattle.search.proofs.bookmark.Search.advance.Goals as goal

pub returns-then-len-span-clause-sits : goal.returns-then-len-span-clause-sits
returns-then-len-span-clause-sits c =
    let q = c.args.self.now in
    let s = c.requires.0 in
    let some : 0 < c.args.span.nets = some_net c.args.span.nets (held q) (omega (arith, held_long q)) s.below in
    let pushed = ap nets c.push.ensures.items ∙ map-append (λ (l : Level). l.net) q.levels.items (record { net = 0 } ∷ []) in
    record {
      few = omega arith;
      below = subst (AllBelow c.args.span.nets) (sym pushed) (all_below_push c.args.span.nets (held q) 0 s.below some);
    }

pub returns-else-pass-clause-sits : goal.returns-else-pass-clause-sits
returns-else-pass-clause-sits c =
    let s = c.requires.0 in
    record { few = omega (arith, s.few, c.climb.ensures.few); below = climb_below c.args.span.nets (held c.args.self.now) (held c.climb.new.self) s.below c.climb.ensures.stands }
