-- How a fault is written.
use Rattle.std.specs.Prelude.{ℕ, List, ◌++◌, codes, decimal}
use Rattle.circuit.specs.Refusals.{number_of}
use Rattle.sheets.specs.declared.fault.Fault.{Fault}
use Rattle.sheets.specs.declared.fault.File.{File}
use Rattle.sheets.specs.declared.fault.File.TheVariants.{PatternParts, PatternJoins, BoardParts, BoardJoins, BoardRails}

-- which of the five sheets, from 1
abbrev pub file_number : File → ℕ
file_number PatternParts = 1
file_number PatternJoins = 2
file_number BoardParts = 3
file_number BoardJoins = 4
file_number BoardRails = 5

-- the sheet, the reason's number, the line and the place
abbrev pub fault_text : Fault → List ℕ
fault_text f = codes "fault " ++ decimal (file_number f.file) ++ codes " " ++ decimal (number_of f.reason) ++ codes " " ++ decimal f.line ++ codes " " ++ decimal f.place
