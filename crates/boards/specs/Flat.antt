-- The tables that make a flat board.
use Rattle.std.specs.Prelude.{ℕ, ◌≤◌, List, length}
use Rattle.std.proofs.Common.{arith}
use Rattle.circuit.specs.Circuit.{Small}
use Rattle.tables.specs.Tables.{circuit_of, Rises, Closes, Climbs, Below}
use Rattle.tables.specs.Cuts.{cuts_length}
use Rattle.tables.specs.declared.lists.Tables.{Tables}

-- at most 4,096 parts, 4,096 nets and 16,384 joins, each net's parts ascending
pub record Good (classes ends joins : List ℕ) : Type 0 where
  pub few_parts : length classes ≤ 4096
  pub few_nets : length ends ≤ 4096
  pub few_joins : length joins ≤ 16384
  pub rises : Rises ends
  pub closes : Closes ends joins
  pub climbs : Climbs ends joins
  pub under : Below joins (length classes)

abbrev pub GoodIn : Tables → Type 0
GoodIn t = Good t.classes.now t.ends.now t.joins.now

pub flat_small : (classes ends joins : List ℕ) → length classes ≤ 4096 → length ends ≤ 4096 → Small (circuit_of classes ends joins)
flat_small classes ends joins p n = record { few_parts = p; few_nets = omega (arith, cuts_length 0 ends joins) }
