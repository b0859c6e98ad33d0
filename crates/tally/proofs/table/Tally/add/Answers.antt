use Rattle.std.proofs.Common.{true, false, length, sym, ap, ◌∙◌, arith, eq-eqb, ne_eqb}
use Rattle.std.proofs.lemmas.List.{length-take}
use Rattle.tally.proofs.Adds.{answer_used, bumped_used, added_used}
use Rattle.tally.proofs.Inserts.{front_list}
use Rattle.tally.proofs.table.Tally.add.Goals as goal

pub returns-then-self-at-clause-answer : goal.returns-then-self-at-clause-answer
returns-then-self-at-clause-answer g c =
    let s = c.args.self.now in
    sym (answer_used g.K.Ord.cmp c.args.key s.entries.now s.len _ c.used.ensures _ c.in-Ok.at _ true c.in-Ok.ensures.bound c.in-Ok.ensures.value (eq-eqb _ 65535 c.if-self-at.true))

pub returns-else-self-at-clause-answer : goal.returns-else-self-at-clause-answer
returns-else-self-at-clause-answer g c =
    let s = c.args.self.now in
    sym (answer_used g.K.Ord.cmp c.args.key s.entries.now s.len _ c.used.ensures _ c.in-Ok.at _ false c.in-Ok.ensures.bound c.in-Ok.ensures.value (ne_eqb _ 65535 c.if-self-at.false))

pub returns-else-self-at-clause-after : goal.returns-else-self-at-clause-after
returns-else-self-at-clause-after g c =
    let s = c.args.self.now in
    bumped_used g.K.Ord.cmp c.args.key s.entries.now s.len _ c.used.ensures c.in-Ok.at _ _ c.in-Ok.ensures.bound c.in-Ok.ensures.value

pub returns-else-len-self-clause-after : goal.returns-else-len-self-clause-after
returns-else-len-self-clause-after g c =
    let s = c.args.self.now in
    front_list s.entries.now c.in-Err.at s.len _ (omega (arith, c.in-Err.ensures.bound, ap length c.used.ensures, length-take s.len s.entries.now)) (omega (arith, s.within, c.if-len-self.false)) c.insert.new.entries c.insert.ensures
    ∙ sym (added_used g.K.Ord.cmp c.args.key s.entries.now s.len _ c.used.ensures c.in-Err.at c.in-Err.ensures.value)
