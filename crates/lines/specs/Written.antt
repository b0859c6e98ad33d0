-- The bytes of each line that is written.
use Rattle.std.specs.Prelude.{ℕ, List, [], ◌∷◌, ◌++◌, map, codes, decimal}
use Rattle.std.specs.List.{range_with_len, flat_map}
use Rattle.circuit.specs.Refusals.{number_of}
use Rattle.sheets.specs.declared.fault.Fault.{Fault}
use Rattle.sheets.specs.Faults.{file_number}
use Rattle.lines.specs.declared.Ending.{Ending}
use Rattle.lines.specs.declared.Ending.TheVariants.{End, Paused}

-- fields with a space between them
abbrev pub spaced : List (List ℕ) → List ℕ
spaced [] = []
spaced (f ∷ fs) = f ++ flat_map (λ g. 32 ∷ g) fs

-- a line of a sheet's form
abbrev pub line_of : List (List ℕ) → List ℕ
line_of fs = spaced fs ++ 10 ∷ []

abbrev pub end_line : List ℕ
end_line = line_of (codes "end" ∷ [])

abbrev pub paused_line : List ℕ
paused_line = line_of (codes "paused" ∷ [])

abbrev pub ending_text : Ending → List ℕ
ending_text End = codes "end"
ending_text Paused = codes "paused"

-- the last line: `end_line` or `paused_line`
abbrev pub ending_line : Ending → List ℕ
ending_line e = line_of (ending_text e ∷ [])

-- the net numbers of a hit
abbrev pub hit_line : List ℕ → List ℕ
hit_line ns = line_of (map decimal ns)

-- a net's name: 110 is n
abbrev pub name_of : ℕ → List ℕ
name_of i = 110 ∷ decimal i

-- n0, n1 and so on
abbrev pub names_line : ℕ → List ℕ
names_line m = line_of (map name_of (range_with_len 0 m))

-- the sheet, the reason's number, the line and the place
abbrev pub fault_line : Fault → List ℕ
fault_line f = line_of (codes "fault" ∷ decimal (file_number f.file) ∷ decimal (number_of f.reason) ∷ decimal f.line ∷ decimal f.place ∷ [])
