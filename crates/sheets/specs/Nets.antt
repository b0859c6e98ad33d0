-- The tables that a joins sheet's rows give: an end for each net, and the joins.
use Rattle.std.specs.Prelude.{◌≡◌, ℕ, ◌+◌, ◌-◌, ◌<◌, ◌≤◌, List, [], ◌∷◌, map, length, take, drop, Ok, Err, vec_items, filter, Result, nat_eq, nat_le, slice_index}
use Rattle.std.specs.List.{prefix_len, range_with_len, AllByRecursion}
use Rattle.sheets.specs.declared.entry.Join.{Join}
use Rattle.sheets.specs.declared.fault.Fault.{Fault}
use Rattle.sheets.specs.declared.fault.File.{File}
use Rattle.sheets.specs.declared.fault.Trouble.{Trouble}
use Rattle.sheets.specs.declared.fault.Trouble.TheVariants.{Faulty, Memory}
use Rattle.sheets.specs.declared.nets.NetTables.{NetTables}
use Rattle.sheets.specs.Rows.{last_net, join_row, join_names}
use Rattle.sheets.specs.Sheets.{sheet_of}

-- one net more than the last row's, and none without rows
abbrev pub nets_of : List Join → ℕ
nets_of [] = 0
nets_of (r ∷ rs) = last_net (r ∷ rs) + 1

-- how long the front of the rows is whose nets are at most f
abbrev pub front : ℕ → List Join → ℕ
front f rows = prefix_len (λ r. nat_le r.net f) rows

abbrev pub ends_of : List Join → List ℕ
ends_of rows = map (λ f. front f rows) (range_with_len 0 (nets_of rows))

abbrev pub part_of : Join → ℕ
part_of r = r.part

abbrev pub parts_of : List Join → List ℕ
parts_of rows = map part_of rows

-- the tables are those of the rows
pub record Tabled (t : NetTables) (rows : List Join) : Type 0 where
  pub ends : vec_items t.ends ≡ ends_of rows
  pub joins : vec_items t.joins ≡ parts_of rows

-- what a load answers: the tables of the rows, or the fault; or memory was wanting
abbrev pub NetsLoaded : Result NetTables Trouble → Result (List Join) Fault → Type 0
NetsLoaded (Ok t) x = (rows : List Join) × (x ≡ Ok rows) × Tabled t rows
NetsLoaded (Err (Faulty f)) x = x ≡ Err f
NetsLoaded (Err Memory) x = Unit {0}

-- ## What the tables come to

-- no row's net is below that of a row before it
abbrev pub Rising : List Join → Type 0
Rising [] = Unit {0}
Rising (r ∷ rs) = AllByRecursion (λ q. r.net ≤ q.net) rs × Rising rs

-- net f's piece of the joins: from the end of the net before, 0 for the first, up to its own end
abbrev pub piece : List ℕ → List ℕ → ℕ → List ℕ
piece ends joins f = take (slice_index ends f - slice_index (0 ∷ ends) f) (drop (slice_index (0 ∷ ends) f) joins)

-- the rows of net f
abbrev pub rows_in : ℕ → List Join → List Join
rows_in f rows = filter (λ r. nat_eq r.net f) rows

-- each net's piece is the parts of its rows, in their order; a net that no row names gets none
abbrev pub NetsCut : Type 0
NetsCut = (rows : List Join) → Rising rows → (f : ℕ) → f < nets_of rows → piece (ends_of rows) (parts_of rows) f ≡ parts_of (rows_in f rows)

-- the ends do not fall, and the last is the number of joins
abbrev pub NetsWhole : Type 0
NetsWhole = (rows : List Join) → Rising rows → ((f : ℕ) → f < nets_of rows → slice_index (0 ∷ ends_of rows) f ≤ slice_index (ends_of rows) f) × (slice_index (0 ∷ ends_of rows) (nets_of rows) ≡ length (parts_of rows))

-- a sheet that is read has such rows
abbrev pub ReadsRising : Type 0
ReadsRising = (file : File) (bytes : List ℕ) (rows : List Join) → sheet_of join_row file join_names bytes ≡ Ok rows → Rising rows × (nets_of rows ≤ 4096) × (length rows ≤ 16384)
