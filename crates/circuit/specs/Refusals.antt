-- The number of each reason to refuse.
use Rattle.std.specs.Prelude.{◌≡◌, ℕ}
use Rattle.circuit.specs.declared.refusal.Reason.{Reason}
use Rattle.circuit.specs.declared.refusal.Reason.TheVariants.{NetCount, PartCount, NetEnd, PartOrder, LoosePart, BoardLimit, BoardEnd, BoardPartOrder, LabelCount, ClassRoom, UnfitLabel, Budget, ShortRow, TupleLength, TupleNet, ShortOutput, ShortTaken, NoPartLeft, NetOffBoard, TallyFull, SheetSize, NamesLine, FieldCount, NumberField, KindField, NetOrder, TableFull}

abbrev pub number_of : Reason → ℕ
number_of NetCount = 1
number_of PartCount = 2
number_of NetEnd = 3
number_of PartOrder = 4
number_of LoosePart = 5
number_of BoardLimit = 11
number_of BoardEnd = 12
number_of BoardPartOrder = 13
number_of LabelCount = 21
number_of ClassRoom = 22
number_of UnfitLabel = 23
number_of Budget = 31
number_of ShortRow = 32
number_of TupleLength = 33
number_of TupleNet = 34
number_of ShortOutput = 35
number_of ShortTaken = 36
number_of NoPartLeft = 37
number_of NetOffBoard = 38
number_of TallyFull = 39
number_of SheetSize = 41
number_of NamesLine = 42
number_of FieldCount = 43
number_of NumberField = 44
number_of KindField = 45
number_of NetOrder = 46
number_of TableFull = 47

abbrev pub NumbersDiffer : Type 0
NumbersDiffer = (a b : Reason) → number_of a ≡ number_of b → a ≡ b
