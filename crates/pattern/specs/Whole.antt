-- The tables that make a pattern, and what every pattern is.
use Rattle.std.specs.Prelude.{◌≡◌, ℕ, ◌<◌, ◌≤◌, true, List, length}
use Rattle.std.specs.List.{AllByRecursion}
use Rattle.circuit.specs.Circuit.{Circuit, Sound, In, parts, N, member}
use Rattle.tables.specs.Tables.{Spans, Closes, Climbs, Below}
use Rattle.tables.specs.declared.lists.Tables.{Tables}

-- each of n parts is on some net
abbrev pub Covers : List ℕ → ℕ → Type 0
Covers joins n = (v : ℕ) → v < n → member joins v ≡ true

-- 1 to 16 nets, none of them empty, and 1 to 64 parts, each on some net
pub record Good (classes ends joins : List ℕ) : Type 0 where
  pub some_nets : 1 ≤ length ends
  pub few_nets : length ends ≤ 16
  pub some_parts : 1 ≤ length classes
  pub few_parts : length classes ≤ 64
  pub spans : Spans 1 ends
  pub closes : Closes ends joins
  pub climbs : Climbs ends joins
  pub under : Below joins (length classes)
  pub covers : Covers joins (length classes)

abbrev pub GoodIn : Tables → Type 0
GoodIn t = Good t.classes.now t.ends.now t.joins.now

-- the same of a circuit: 1 to 16 nets, 1 to 64 parts, each net an ascending list of parts and none empty, each part on some net
pub record Whole (c : Circuit) : Type 0 where
  pub some_nets : 1 ≤ N c
  pub few_nets : N c ≤ 16
  pub some_parts : 1 ≤ parts c
  pub few_parts : parts c ≤ 64
  pub sound : Sound c
  pub no_empty : AllByRecursion (λ xs. 1 ≤ length xs) c.nets
  pub covered : (v : ℕ) → v < parts c → In c (N c) v
