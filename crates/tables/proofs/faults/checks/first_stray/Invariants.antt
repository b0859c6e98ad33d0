use Rattle.std.proofs.Common.{◌≡◌}
use Rattle.tables.specs.Tables.{start}
use Rattle.tables.specs.Faults.{AllFine}
use Rattle.tables.proofs.faults.checks.first_stray.Given as goal

abbrev pub invariant-loop-end : goal.invariant-loop-end
invariant-loop-end l = record {
  begins : l.from ≡ start l.ends l.end-index;
  fine : AllFine l.n l.ends l.joins l.end-index;
}
