-- What every pattern is.
use Rattle.std.specs.Prelude.{◌≤◌, length}
use Rattle.std.proofs.Common.{arith}
use Rattle.circuit.specs.Circuit.{Sound, Small}
use Rattle.tables.specs.Tables.{Rises}
use Rattle.tables.specs.Cuts.{sound, cuts_length}
use Rattle.pattern.specs.Drawn.{drawn}
use Rattle.pattern.specs.declared.pattern.Pattern.{Pattern}

pub rises : (p : Pattern) → Rises p.ends.items
rises p f h = let g = p.spans f h in omega arith

pub drawn_sound : (p : Pattern) → Sound (drawn p)
drawn_sound p = sound p.classes.items p.ends.items p.joins.items (rises p) p.closes p.climbs p.under

pub nets_few : (p : Pattern) → length (drawn p).nets ≤ 16
nets_few p = omega (arith, cuts_length 0 p.ends.items p.joins.items, p.few_nets)

pub parts_few : (p : Pattern) → length (drawn p).classes ≤ 64
parts_few p = p.few_parts

pub nets_some : (p : Pattern) → 1 ≤ length (drawn p).nets
nets_some p = omega (arith, cuts_length 0 p.ends.items p.joins.items, p.some_nets)

pub drawn_small : (p : Pattern) → Small (drawn p)
drawn_small p = record { few_parts = omega (arith, parts_few p); few_nets = omega (arith, nets_few p) }
