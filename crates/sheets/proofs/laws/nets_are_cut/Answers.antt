use Rattle.sheets.proofs.Pieces.{nets_cut, nets_whole, reads_rising}
use Rattle.sheets.proofs.laws.nets_are_cut.Goals as goal

pub returns : goal.returns
returns c = (nets_cut, nets_whole, reads_rising)
