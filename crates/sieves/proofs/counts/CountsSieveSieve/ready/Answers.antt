use Rattle.pattern.specs.Drawn.{drawn}
use Rattle.pattern.specs.Kept.{drawn_sound}
use Rattle.sieves.proofs.Kept.{counts_fit}
use Rattle.sieves.proofs.counts.CountsSieveSieve.ready.Goals as goal

pub returns : goal.returns
returns g c =
    counts_fit (drawn c.args._pattern.now) (g.B.Board.means c.args._board.now) (drawn_sound c.args._pattern.now) (g.B.Board.sound c.args._board.now)
