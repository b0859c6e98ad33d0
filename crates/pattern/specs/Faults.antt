-- Why three tables make no pattern: the smallest number that applies, at its smallest place.
use Rattle.std.specs.Prelude.{◌≡◌, ℕ, ◌<◌, ◌≤◌, true, false, ◌⊎◌, List, length}
use Rattle.circuit.specs.Circuit.{member}
use Rattle.circuit.specs.declared.refusal.Reason.{Reason}
use Rattle.circuit.specs.declared.refusal.Reason.TheVariants.{NetCount, PartCount, NetEnd, PartOrder, LoosePart}
use Rattle.circuit.specs.declared.refusal.Refusal.{Refusal}
use Rattle.tables.specs.declared.faults.Misfit.{Misfit}
use Rattle.tables.specs.Tables.{Spans, Closes}
use Rattle.tables.specs.Faults.{WrongEnd, Stray, Fitting, refused}
use Rattle.pattern.specs.Whole.{Covers}
use Rattle.tables.specs.declared.lists.Tables.{Tables}

pub record Limits (classes ends : List ℕ) : Type 0 where
  pub some_nets : 1 ≤ length ends
  pub few_nets : length ends ≤ 16
  pub some_parts : 1 ≤ length classes
  pub few_parts : length classes ≤ 64

pub data Refused (classes ends joins : List ℕ) : Reason → ℕ → Type 0 where
  net_count : (length ends ≡ 0) ⊎ (16 < length ends) → Refused classes ends joins NetCount 0
  part_count : 1 ≤ length ends → length ends ≤ 16 → (length classes ≡ 0) ⊎ (64 < length classes) → Refused classes ends joins PartCount 0
  -- a net that is empty or ends before it begins; or the last end, at the number of nets
  net_end : (f : ℕ) → Limits classes ends → WrongEnd 1 ends joins f → Refused classes ends joins NetEnd f
  -- a join that is no part, or not above the one before it in its net
  part_order : (k : ℕ) → Limits classes ends → Spans 1 ends → Closes ends joins → Stray (length classes) ends joins k → Refused classes ends joins PartOrder k
  -- a part on no net
  loose_part : (v : ℕ) → Limits classes ends → Fitting (length classes) 1 ends joins → v < length classes
      → ((w : ℕ) → w < v → member joins w ≡ true) → member joins v ≡ false → Refused classes ends joins LoosePart v

abbrev pub RefusedIn : Tables → Refusal → Type 0
RefusedIn t e = Refused t.classes.now t.ends.now t.joins.now e.reason e.place

-- the refusal for a wrong end or join
abbrev pub by_misfit : Misfit → Refusal
by_misfit = refused NetEnd PartOrder

-- v is the first of n parts that no join names
pub record Loose (n : ℕ) (joins : List ℕ) (v : ℕ) : Type 0 where
  pub part : v < n
  pub free : member joins v ≡ false
  pub earlier : Covers joins v
