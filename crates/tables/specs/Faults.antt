-- What is wrong with an end or a join of three tables, and where it is wrong first.
use Rattle.std.specs.Prelude.{◌≡◌, ℕ, ◌+◌, ◌-◌, ◌<◌, ◌≤◌, ◌⊎◌, List, length, slice_index, slice_index_or}
use Rattle.circuit.specs.declared.refusal.Reason.{Reason}
use Rattle.circuit.specs.declared.refusal.Refusal.{Refusal}
use Rattle.tables.specs.Tables.{start, Spans, Closes, Climbs, Below}
use Rattle.tables.specs.declared.faults.Misfit.{Misfit}
use Rattle.tables.specs.declared.faults.Misfit.TheVariants.{End, Join}

-- the join at k, in a net that begins at `from`, is one of n parts and above the join before it in the net
pub record Fine (n : ℕ) (joins : List ℕ) (from k : ℕ) : Type 0 where
  pub part : slice_index_or joins k 0 < n
  pub above : from < k → slice_index joins (k - 1) < slice_index joins k

-- k is the first place of one net's list whose part is not fine
pub record StrayIn (n : ℕ) (list : List ℕ) (k : ℕ) : Type 0 where
  pub there : k < length list
  pub bad : Fine n list 0 k → ⊥
  pub earlier : (j : ℕ) → j < k → Fine n list 0 j

-- k is the first join that is not fine
pub record Stray (n : ℕ) (ends joins : List ℕ) (k : ℕ) : Type 0 where
  pub net : ℕ
  pub there : net < length ends
  pub from : start ends net ≤ k
  pub to : k < slice_index ends net
  pub bad : Fine n joins (start ends net) k → ⊥
  pub earlier : (g j : ℕ) → g < length ends → start ends g ≤ j → j < slice_index ends g → j < k → Fine n joins (start ends g) j

-- the joins of the first f nets are fine
abbrev pub AllFine : ℕ → List ℕ → List ℕ → ℕ → Type 0
AllFine n ends joins f = (g j : ℕ) → g < f → start ends g ≤ j → j < slice_index ends g → Fine n joins (start ends g) j

-- the first wrong end: a net with too few parts; or, where none has, the last end, whose place is the number of nets
abbrev pub WrongEnd : ℕ → List ℕ → List ℕ → ℕ → Type 0
WrongEnd least ends joins f =
    ((f < length ends) × ((g : ℕ) → g < f → start ends g + least ≤ slice_index ends g) × (slice_index ends f < start ends f + least))
    ⊎ ((f ≡ length ends) × Spans least ends × (Closes ends joins → ⊥))

abbrev pub Wrong : ℕ → ℕ → List ℕ → List ℕ → Misfit → Type 0
Wrong n least ends joins (End f) = WrongEnd least ends joins f
Wrong n least ends joins (Join k) = Spans least ends × Closes ends joins × Stray n ends joins k

-- the tables have n parts in ascending order in nets of at least so many parts
pub record Fitting (n least : ℕ) (ends joins : List ℕ) : Type 0 where
  pub spans : Spans least ends
  pub closes : Closes ends joins
  pub climbs : Climbs ends joins
  pub under : Below joins n

-- the refusal for a wrong end or join, with the reason for each
abbrev pub refused : Reason → Reason → Misfit → Refusal
refused end join (End f) = record { reason = end; place = f }
refused end join (Join k) = record { reason = join; place = k }
