-- A line of numbers, read as a sheet's line is.
use Rattle.std.specs.Prelude.{◌≡◌, ℕ, ◌<◌, List, [], ◌∷◌, map, length, Some, decimal}
use Rattle.std.specs.List.{AllByRecursion}
use Rattle.sheets.specs.Lines.{closed, lines, fields}
use Rattle.sheets.specs.Numbers.{numeral}
use Rattle.lines.specs.Written.{hit_line, spaced}

-- the hit line is one line that ended, and its fields write the numbers
abbrev pub HitBack : Type 0
HitBack = (ns : List ℕ) → 0 < length ns → AllByRecursion (λ n. n < 65536) ns →
    (lines (hit_line ns) ≡ closed (spaced (map decimal ns)) ∷ [])
    × (map numeral (fields (spaced (map decimal ns))) ≡ map Some ns)
