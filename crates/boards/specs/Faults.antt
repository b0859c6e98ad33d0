-- Why three tables make no flat board: the smallest number that applies, at its smallest place.
use Rattle.std.specs.Prelude.{ℕ, ◌<◌, ◌≤◌, ◌⊎◌, List, length}
use Rattle.circuit.specs.declared.refusal.Reason.{Reason}
use Rattle.circuit.specs.declared.refusal.Reason.TheVariants.{BoardLimit, BoardEnd, BoardPartOrder}
use Rattle.circuit.specs.declared.refusal.Refusal.{Refusal}
use Rattle.tables.specs.Tables.{Spans, Closes}
use Rattle.tables.specs.Faults.{WrongEnd, Stray, refused}
use Rattle.tables.specs.declared.faults.Misfit.{Misfit}
use Rattle.tables.specs.declared.lists.Tables.{Tables}

pub record Limits (classes ends joins : List ℕ) : Type 0 where
  pub few_parts : length classes ≤ 4096
  pub few_nets : length ends ≤ 4096
  pub few_joins : length joins ≤ 16384

pub data Refused (classes ends joins : List ℕ) : Reason → ℕ → Type 0 where
  limit : (4096 < length classes) ⊎ ((4096 < length ends) ⊎ (16384 < length joins)) → Refused classes ends joins BoardLimit 0
  -- an end below the one before; or the last end, at the number of nets
  end : (f : ℕ) → Limits classes ends joins → WrongEnd 0 ends joins f → Refused classes ends joins BoardEnd f
  -- a join that is no part, or not above the one before it in its net
  part_order : (k : ℕ) → Limits classes ends joins → Spans 0 ends → Closes ends joins → Stray (length classes) ends joins k → Refused classes ends joins BoardPartOrder k

abbrev pub RefusedIn : Tables → Refusal → Type 0
RefusedIn t e = Refused t.classes.now t.ends.now t.joins.now e.reason e.place

-- the refusal for a wrong end or join
abbrev pub by_misfit : Misfit → Refusal
by_misfit = refused BoardEnd BoardPartOrder
