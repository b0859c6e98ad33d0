use Rattle.pattern.specs.Drawn.{drawn}
use Rattle.pattern.specs.Kept.{drawn_sound}
use Rattle.sieves.proofs.Kept.{filled_fit}
use Rattle.sieves.proofs.table.fills.TableSieveSieve.ready.Goals as goal

pub returns : goal.returns
returns g c =
    filled_fit (drawn c.args.pattern.now) (g.B.Board.means c.args.board.now)
    (drawn_sound c.args.pattern.now) (g.B.Board.sound c.args.board.now) c.fill.new.self.fits c.fill.ensures.entries
