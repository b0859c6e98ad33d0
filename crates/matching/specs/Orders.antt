-- Cells are ordered by class, then by mask.
use Rattle.std.specs.declared.cmp.Ordering.{Ordering}
use Rattle.std.specs.Ordering.{ordering_then, nat_cmp}
use Rattle.std.specs.Cmp.{IsTotalOrder, nat_cmp_total, on_total, then_total}
use Rattle.matching.specs.declared.cell.Cell.{Cell}

abbrev pub by_cell : Cell → Cell → Ordering
by_cell x y = ordering_then (nat_cmp x.class y.class) (nat_cmp x.mask y.mask)

pub cells : IsTotalOrder by_cell
cells = then_total (on_total (λ (x : Cell). x.class) nat_cmp_total) (on_total (λ (x : Cell). x.mask) nat_cmp_total)
