-- Which byte strings are good sheets, without reading them.
use Rattle.std.specs.Prelude.{◌≡◌, ℕ, ◌+◌, ◌<◌, ◌≤◌, cond, ◌⊎◌, List, [], ◌∷◌, ◌++◌, map, length, Ok, Err, decimal, Result, ◌≢◌}
use Rattle.std.specs.List.{flat_map, AllByRecursion}
use Rattle.circuit.specs.declared.refusal.Refusal.{Refusal}
use Rattle.sheets.specs.declared.fault.File.{File}
use Rattle.sheets.specs.declared.entry.Join.{Join}
use Rattle.sheets.specs.Lines.{Line, closed, lines, fields}
use Rattle.sheets.specs.Rows.{join_row, join_names, last_net}
use Rattle.sheets.specs.Sheets.{sheet_of, fault_at}
use Rattle.sheets.specs.declared.fault.Fault.{Fault}
use Rattle.circuit.specs.declared.refusal.Reason.TheVariants.{SheetSize, NamesLine}

-- no byte c
abbrev pub Without : ℕ → List ℕ → Type 0
Without c [] = Unit {0}
Without c (b ∷ bs) = (b ≢ c) × Without c bs

-- a line with its byte 10
abbrev pub shown : Line → List ℕ
shown l = l.text ++ cond l.ended (10 ∷ []) []

abbrev pub ended_line : List ℕ → List ℕ
ended_line t = t ++ 10 ∷ []

-- a names line, then one line for each text
abbrev pub sheet_bytes : List ℕ → List (List ℕ) → List ℕ
sheet_bytes names texts = ended_line names ++ flat_map ended_line texts

module _ {R : Type 0} (judged : List R → Line → Result R Refusal) where
  -- one text for each row, and each says its row after the rows before it
  abbrev pub Says : List R → List (List ℕ) → List R → Type 0
  Says before [] [] = Unit {0}
  Says before [] (r ∷ rs) = ⊥
  Says before (t ∷ ts) [] = ⊥
  Says before (t ∷ ts) (r ∷ rs) = (judged before (closed t) ≡ Ok r) × Says (before ++ r ∷ []) ts rs

  pub record Good (names bytes : List ℕ) (rows : List R) : Type 0 where
    pub small : length bytes ≤ 65536
    pub texts : List (List ℕ)
    pub single : AllByRecursion (Without 10) texts
    pub whole : bytes ≡ sheet_bytes names texts
    pub says : Says [] texts rows

  -- the sheets that are read into rows are just the good ones
  abbrev pub ReadsGood : List ℕ → Type 0
  ReadsGood names = (file : File) (bytes : List ℕ) (rows : List R) →
      (sheet_of judged file names bytes ≡ Ok rows → Good names bytes rows) × (Good names bytes rows → sheet_of judged file names bytes ≡ Ok rows)

  -- the lines up to the first bad one say rows, and that line says none after them
  pub record Fails (file : File) (ls : List Line) (f : Fault) : Type 0 where
    pub texts : List (List ℕ)
    pub rows : List R
    pub says : Says [] texts rows
    pub line : Line
    pub rest : List Line
    pub at : ls ≡ map closed texts ++ line ∷ rest
    pub what : Refusal
    pub wrong : judged rows line ≡ Err what
    pub is : f ≡ fault_at file what.reason (length rows + 2) what.place

  -- the names line, and the lines after it
  abbrev pub Named : List ℕ → List Line → List Line → Type 0
  Named names ls after = ls ≡ closed names ∷ after

  -- a sheet that is not read is too long, or has no names line, or has a first bad line
  abbrev pub OneFault : List ℕ → Type 0
  OneFault names = (file : File) (bytes : List ℕ) (f : Fault) → sheet_of judged file names bytes ≡ Err f →
      ((65536 < length bytes) × (f ≡ fault_at file SheetSize 0 0))
      ⊎ (((length bytes ≤ 65536) × ((after : List Line) → Named names (lines bytes) after → ⊥) × (f ≡ fault_at file NamesLine 1 0))
      ⊎ ((length bytes ≤ 65536) × ((after : List Line) × Named names (lines bytes) after × Fails file after f)))

-- what a joins sheet can hold: nets that do not fall, and numbers up to 4,095
abbrev pub Holdable : List Join → List Join → Type 0
Holdable before [] = Unit {0}
Holdable before (r ∷ rs) = (last_net before ≤ r.net) × (r.net ≤ 4095) × (r.part ≤ 4095) × (length before < 16384) × Holdable (before ++ r ∷ []) rs

abbrev pub join_text : Join → List ℕ
join_text r = decimal r.net ++ 32 ∷ decimal r.part

abbrev pub joins_sheet : List Join → List ℕ
joins_sheet rows = ended_line join_names ++ flat_map (λ r. ended_line (join_text r)) rows

-- a joins sheet that is written from rows is read back as those rows
abbrev pub JoinsBack : Type 0
JoinsBack = (file : File) (rows : List Join) → Holdable [] rows → length (joins_sheet rows) ≤ 65536 → sheet_of join_row file join_names (joins_sheet rows) ≡ Ok rows

-- lines and fields are cut without loss
abbrev pub LinesWhole : Type 0
LinesWhole = (s : List ℕ) → (flat_map shown (lines s) ≡ s) × AllByRecursion (λ l. Without 10 l.text) (lines s)

abbrev pub LinesCut : Type 0
LinesCut = (t rest : List ℕ) → Without 10 t → lines (ended_line t ++ rest) ≡ closed t ∷ lines rest

abbrev pub FieldsCut : Type 0
FieldsCut = (a b : List ℕ) → Without 32 a → Without 32 b → fields (a ++ 32 ∷ b) ≡ a ∷ b ∷ []

-- and a joins sheet that is read is written from its rows
abbrev pub JoinsOnly : Type 0
JoinsOnly = (file : File) (bytes : List ℕ) (rows : List Join) → sheet_of join_row file join_names bytes ≡ Ok rows → (bytes ≡ joins_sheet rows) × Holdable [] rows
