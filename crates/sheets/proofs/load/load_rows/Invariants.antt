use Rattle.std.proofs.Common.{◌≡◌, ◌-◌, ◌≤◌, length, vec_items, vec_len}
use Rattle.sheets.specs.Reading.{bytes_of, coming}
use Rattle.sheets.specs.Sheets.{rows_on, sheet_of}
use Rattle.sheets.proofs.load.load_rows.Given as goal

abbrev pub invariant-loop-reader : goal.invariant-loop-reader
invariant-loop-reader g l =
    (bytes_of l.reader ≡ l.bytes)
    × (rows_on g.R.Row.judged l.file (vec_items l.rows) (coming l.reader) ≡ sheet_of g.R.Row.judged l.file g.R.Row.heading l.bytes)
    × (vec_len l.rows ≤ l.reader.next)

abbrev pub decreases-loop-reader : goal.decreases-loop-reader
decreases-loop-reader g l = length l.bytes - l.reader.next
