use Rattle.std.proofs.Common.{◌≡◌, ℕ, ◌≤◌, List, length, sym, subst, inl, inr, arith}
use Rattle.std.proofs.lemmas.Bool.Decides.{nat_tests}
use Rattle.circuit.specs.declared.refusal.Refusal.{Refusal}
use Rattle.tables.specs.declared.faults.Misfit.{Misfit}
use Rattle.tables.specs.declared.faults.Misfit.TheVariants.{End, Join}
use Rattle.tables.specs.Faults.{Wrong}
use Rattle.pattern.specs.Faults.{Limits, Refused, by_misfit, net_count, part_count, net_end, part_order, loose_part}
use Rattle.pattern.proofs.checks.check.Goals as goal
use Rattle.pattern.proofs.checks.check.Goals.{then-is_empty-via-then-is_empty, then-is_empty-via-else-is_empty+then-tables-gt16, then-is_empty-2-via-then-is_empty-2, then-is_empty-2-via-else-is_empty-2+then-tables-gt64}

pub returns-then-is_empty : goal.returns-then-is_empty
returns-then-is_empty c = elim c.then-is_empty.branch [
  | then-is_empty-via-then-is_empty w ↦ let none : length c.args.tables.ends.now ≡ 0 = grind (arith, nat_tests) in net_count (inl none)
  | then-is_empty-via-else-is_empty+then-tables-gt16 w ↦ net_count (inr w.if-tables-gt16.true)
]

pub returns-then-is_empty-2 : goal.returns-then-is_empty-2
returns-then-is_empty-2 c =
    let some_nets : 1 ≤ length c.args.tables.ends.now = grind (arith, nat_tests) in
    elim c.then-is_empty-2.branch [
      | then-is_empty-2-via-then-is_empty-2 w ↦ let none : length c.args.tables.classes.now ≡ 0 = grind (arith, nat_tests) in part_count some_nets (omega arith) (inl none)
      | then-is_empty-2-via-else-is_empty-2+then-tables-gt64 w ↦ part_count some_nets (omega arith) (inr w.if-tables-gt64.true)
    ]

-- a wrong end or join is refused as the definition has it
refused_for : (classes ends joins : List ℕ) (m : Misfit) (e : Refusal) → e ≡ by_misfit m → Limits classes ends → Wrong (length classes) 1 ends joins m
    → Refused classes ends joins e.reason e.place
refused_for classes ends joins (End f) e is lim w =
    let R : Refusal → Type 0 = λ x. Refused classes ends joins x.reason x.place in subst R (sym is) (net_end f lim w)
refused_for classes ends joins (Join k) e is lim w =
    let R : Refusal → Type 0 = λ x. Refused classes ends joins x.reason x.place in subst R (sym is) (part_order k lim w.0 w.1 w.2)

pub returns-in-Some : goal.returns-in-Some
returns-in-Some c =
    let t = c.args.tables in
    let lim : Limits t.classes.now t.ends.now = record { some_nets = grind (arith, nat_tests); few_nets = omega arith; some_parts = grind (arith, nat_tests); few_parts = omega arith } in
    refused_for t.classes.now t.ends.now t.joins.now c.in-Some.misfit c.refusal.result c.refusal.ensures lim c.in-Some.ensures

pub returns-in-Some-first_loose : goal.returns-in-Some-first_loose
returns-in-Some-first_loose c =
    let t = c.args.tables in
    let lim : Limits t.classes.now t.ends.now = record { some_nets = grind (arith, nat_tests); few_nets = omega arith; some_parts = grind (arith, nat_tests); few_parts = omega arith } in
    let loose = c.in-Some-first_loose.ensures in
    loose_part c.in-Some-first_loose.v lim c.in_default.ensures loose.part loose.earlier loose.free
