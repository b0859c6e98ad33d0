-- Every pattern is whole.
use Rattle.std.proofs.Common.{◌<◌, ◌≤◌, [], length, arith}
use Rattle.std.specs.List.{AllByRecursion}
use Rattle.std.proofs.ByRecursion.{All-from_get_or}
use Rattle.tables.specs.Cuts.{cuts_length, net_length}
use Rattle.pattern.specs.Drawn.{drawn}
use Rattle.pattern.specs.Kept.{rises, drawn_sound, nets_few, nets_some, parts_few}
use Rattle.pattern.specs.Whole.{Whole}
use Rattle.pattern.specs.declared.pattern.Pattern.{Pattern}
use Rattle.pattern.proofs.Covered.{covered}

no_empty : (p : Pattern) → AllByRecursion (λ xs. 1 ≤ length xs) (drawn p).nets
no_empty p = All-from_get_or (λ xs. 1 ≤ length xs) (drawn p).nets [] λ f h.
    let there : f < length p.ends.items = omega (arith, cuts_length 0 p.ends.items p.joins.items) in
    omega (arith, net_length p.classes.items p.ends.items p.joins.items (rises p) p.closes p.climbs p.under f there, p.spans f there)

pub whole : (p : Pattern) → Whole (drawn p)
whole p = record {
  some_nets = nets_some p;
  few_nets = nets_few p;
  some_parts = p.some_parts;
  few_parts = parts_few p;
  sound = drawn_sound p;
  no_empty = no_empty p;
  covered = covered p;
}
