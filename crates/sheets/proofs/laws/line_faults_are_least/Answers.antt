use Rattle.sheets.proofs.Least.{joins_least}
use Rattle.sheets.proofs.LeastParts.{parts_least}
use Rattle.sheets.proofs.LeastRails.{rails_least}
use Rattle.sheets.proofs.laws.line_faults_are_least.Goals as goal

pub returns : goal.returns
returns c = (joins_least, parts_least, rails_least)
