-- A whole sheet: its rows, or its one fault.
use Rattle.std.specs.Prelude.{◌≡◌, ℕ, ◌+◌, cond, ◌&&◌, List, [], ◌∷◌, ◌++◌, length, Ok, Err, vec_items, Result, Vec, nat_lt}
use Rattle.std.specs.Str.{bytes_eq}
use Rattle.circuit.specs.declared.refusal.Refusal.{Refusal}
use Rattle.std.specs.declared.alloc.Global.{Global}
use Rattle.sheets.specs.declared.fault.Fault.{Fault}
use Rattle.sheets.specs.declared.fault.File.{File}
use Rattle.sheets.specs.declared.fault.Layer.{Layer}
use Rattle.sheets.specs.declared.fault.Layer.TheVariants.{Field, Row, Table, Below}
use Rattle.sheets.specs.declared.fault.Trouble.{Trouble}
use Rattle.sheets.specs.declared.fault.Trouble.TheVariants.{Faulty, Memory}
use Rattle.sheets.specs.Lines.{Line, lines}
use Rattle.circuit.specs.declared.refusal.Reason.{Reason}
use Rattle.circuit.specs.declared.refusal.Reason.TheVariants.{NetCount, PartCount, NetEnd, PartOrder, LoosePart, BoardLimit, BoardEnd, BoardPartOrder, LabelCount, ClassRoom, UnfitLabel, Budget, ShortRow, TupleLength, TupleNet, ShortOutput, ShortTaken, NoPartLeft, NetOffBoard, TallyFull, SheetSize, NamesLine, FieldCount, NumberField, KindField, NetOrder, TableFull}

-- the layer that gives a fault
abbrev pub layer_of : Reason → Layer
layer_of NetCount = Below
layer_of PartCount = Below
layer_of NetEnd = Below
layer_of PartOrder = Below
layer_of LoosePart = Below
layer_of BoardLimit = Below
layer_of BoardEnd = Below
layer_of BoardPartOrder = Below
layer_of LabelCount = Below
layer_of ClassRoom = Below
layer_of UnfitLabel = Below
layer_of Budget = Below
layer_of ShortRow = Below
layer_of TupleLength = Below
layer_of TupleNet = Below
layer_of ShortOutput = Below
layer_of ShortTaken = Below
layer_of NoPartLeft = Below
layer_of NetOffBoard = Below
layer_of TallyFull = Below
layer_of SheetSize = Table
layer_of NamesLine = Row
layer_of FieldCount = Row
layer_of NumberField = Field
layer_of KindField = Field
layer_of NetOrder = Row
layer_of TableFull = Table

abbrev pub fault_at : File → Reason → ℕ → ℕ → Fault
fault_at f why l p = record { file = f; layer = layer_of why; reason = why; line = l; place = p }

-- a line's row goes to the rest of the sheet, and its fault is the sheet's
abbrev pub then_row : {R : Type 0} → File → ℕ → Result R Refusal → (R → Result (List R) Fault) → Result (List R) Fault
then_row f n (Ok r) rest = rest r
then_row f n (Err e) rest = Err (fault_at f e.reason n e.place)

module _ {R : Type 0} (judged : List R → Line → Result R Refusal) (file : File) where
  -- the lines after the names, one by one: the first bad line is the sheet's fault
  abbrev pub rows_on : List R → List Line → Result (List R) Fault
  rows_on before [] = Ok before
  rows_on before (l ∷ ls) = then_row file (length before + 2) (judged before l) (λ r. rows_on (before ++ r ∷ []) ls)

  -- a names line, then the rows
  abbrev pub sheet_lines : List ℕ → List Line → Result (List R) Fault
  sheet_lines names [] = Err (fault_at file NamesLine 1 0)
  sheet_lines names (l ∷ ls) = cond (l.ended && bytes_eq l.text names) (rows_on [] ls) (Err (fault_at file NamesLine 1 0))

  abbrev pub sheet_of : List ℕ → List ℕ → Result (List R) Fault
  sheet_of names bytes = cond (nat_lt 65536 (length bytes)) (Err (fault_at file SheetSize 0 0)) (sheet_lines names (lines bytes))

-- what a load answers: the rows, or the fault; or memory was wanting
abbrev pub Loaded : {R : Type 0} → Result (Vec R Global) Trouble → Result (List R) Fault → Type 0
Loaded (Ok v) x = x ≡ Ok (vec_items v)
Loaded (Err (Faulty f)) x = x ≡ Err f
Loaded (Err Memory) x = Unit {0}
