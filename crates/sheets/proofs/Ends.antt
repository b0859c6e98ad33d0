-- A row is never read from a line that did not end.
use Rattle.std.proofs.Common.{◌≡◌, Bool, true, false, cond, List, None, Ok, Err, Option, Result, sym, refl, ◌∙◌}
use Rattle.circuit.specs.declared.refusal.Refusal.{Refusal}
use Rattle.labels.specs.declared.kinds.Measured.{Measured}
use Rattle.sheets.specs.declared.entry.Join.{Join}
use Rattle.sheets.specs.declared.entry.Rail.{Rail}
use Rattle.sheets.specs.Lines.{Line, fields}
use Rattle.sheets.specs.Rows.{part_row, part_by, join_row, join_by, rail_row, rail_by, just_two, just_one}

-- what is read from the fields of a line that ended, and refused without them
row_ends : {R F : Type 0} (by : Option F → Result R Refusal) (e : Refusal) (fs : Option F) (r : R) (ended : Bool) → by None ≡ Err e → by (cond ended fs None) ≡ Ok r → ended ≡ true
row_ends by e fs r true refused k = refl
row_ends by e fs r false refused k = cc (sym refused ∙ k)

pub part_ends : (before : List Measured) (l : Line) (r : Measured) → part_row before l ≡ Ok r → l.ended ≡ true
part_ends before l r e = row_ends (part_by before) _ (just_two (fields l.text)) r l.ended refl e

pub join_ends : (before : List Join) (l : Line) (r : Join) → join_row before l ≡ Ok r → l.ended ≡ true
join_ends before l r e = row_ends (join_by before) _ (just_two (fields l.text)) r l.ended refl e

pub rail_ends : (before : List Rail) (l : Line) (r : Rail) → rail_row before l ≡ Ok r → l.ended ≡ true
rail_ends before l r e = row_ends (rail_by before) _ (just_one (fields l.text)) r l.ended refl e
