use Rattle.std.proofs.Common.{◌≡◌, ℕ, ◌+◌, ◌<◌, ◌≤◌, slice_index}
use Rattle.tables.specs.Tables.{start}
use Rattle.tables.proofs.faults.checks.first_wrong_end.Given as goal

abbrev pub invariant-loop-f : goal.invariant-loop-f
invariant-loop-f l = record {
  begins : l.from ≡ start l.ends l.f;
  fits : l.from < 65536;
  long : (g : ℕ) → g < l.f → start l.ends g + l.least ≤ slice_index l.ends g;
}
