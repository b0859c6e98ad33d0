use Rattle.std.proofs.Common.{arith}
use Rattle.sheets.proofs.Wholes.{read_good, good_read}
use Rattle.sheets.proofs.Ends.{part_ends, join_ends, rail_ends}
use Rattle.sheets.specs.Rows.{join_row, rail_row, part_row, join_names, rail_names, part_names}
use Rattle.sheets.specs.Laws.{Without}
use Rattle.sheets.proofs.laws.good_sheets_are_read.Goals as goal

parts : Without 10 part_names
parts = search arith

joins : Without 10 join_names
joins = search arith

rails : Without 10 rail_names
rails = search arith

pub returns : goal.returns
returns c = (
  (λ file bytes rows. (read_good part_row part_ends part_names file bytes rows, good_read part_row part_ends part_names parts file bytes rows)),
  (λ file bytes rows. (read_good join_row join_ends join_names file bytes rows, good_read join_row join_ends join_names joins file bytes rows)),
  (λ file bytes rows. (read_good rail_row rail_ends rail_names file bytes rows, good_read rail_row rail_ends rail_names rails file bytes rows)),
)
