use Rattle.lines.proofs.Backs.{hit_back}
use Rattle.lines.proofs.hits_are_read_back.Goals as goal

pub returns : goal.returns
returns c = hit_back
