use Rattle.std.proofs.Common.{◌≡◌, ℕ, ◌+◌, ◌-◌, ◌<◌, slice_index}
use Rattle.tables.specs.Faults.{Fine}
use Rattle.tables.proofs.faults.checks.stray_in.Given as goal

abbrev pub invariant-loop-k : goal.invariant-loop-k
invariant-loop-k l = record {
  fine : (k : ℕ) → k < l.k → Fine l.n l.list 0 k;
  first : l.k ≡ 0 → l.least ≡ 0;
  later : 0 < l.k → l.least ≡ slice_index l.list (l.k - 1) + 1;
}
