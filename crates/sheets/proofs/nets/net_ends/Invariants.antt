use Rattle.std.proofs.Common.{◌≡◌, ◌≤◌, map, length, vec_items}
use Rattle.std.specs.List.{range_with_len}
use Rattle.sheets.specs.Nets.{front}
use Rattle.sheets.proofs.nets.net_ends.Given as goal

abbrev pub invariant-loop-net : goal.invariant-loop-net
invariant-loop-net l = record { items : vec_items l.ends ≡ map (λ f. front f l.rows) (range_with_len 0 l.net); within : l.at ≤ length l.rows; front : l.at ≤ front l.net l.rows }
