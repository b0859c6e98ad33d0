use Rattle.std.proofs.Common.{inl, inr, arith}
use Rattle.boards.specs.Faults.{limit}
use Rattle.boards.proofs.Checks.{refused_for}
use Rattle.boards.proofs.flat.check.Goals as goal
use Rattle.boards.proofs.flat.check.Goals.{then-tables-gt4096-via-then-tables-gt4096, then-tables-gt4096-via-else-tables-gt4096+then-tables-gt4096-2, then-tables-gt4096-via-else-tables-gt4096+else-tables-gt4096-2+then-tables-gt16384}

pub returns-then-tables-gt4096 : goal.returns-then-tables-gt4096
returns-then-tables-gt4096 c =
    elim c.then-tables-gt4096.branch [
      | then-tables-gt4096-via-then-tables-gt4096 w ↦ limit (inl w.if-tables-gt4096.true)
      | then-tables-gt4096-via-else-tables-gt4096+then-tables-gt4096-2 w ↦ limit (inr (inl w.if-tables-gt4096-2.true))
      | then-tables-gt4096-via-else-tables-gt4096+else-tables-gt4096-2+then-tables-gt16384 w ↦ limit (inr (inr w.if-tables-gt16384.true))
    ]

pub returns-in-Some : goal.returns-in-Some
returns-in-Some c =
    let t = c.args.tables in
    refused_for t.classes.now t.ends.now t.joins.now c.in-Some.misfit c.refusal.result c.refusal.ensures
    (record { few_parts = omega arith; few_nets = omega arith; few_joins = omega arith }) c.in-Some.ensures
