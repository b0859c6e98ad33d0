use Rattle.std.proofs.Common.{rules}
use Rattle.pattern.specs.Drawn.{drawn}
use Rattle.sieves.proofs.Kept.{filled_means}
use Rattle.sieves.proofs.table.TableSieve.fill.Goals as goal

pub returns-clause-means : goal.returns-clause-means
returns-clause-means g c = filled_means (drawn c.args.pattern.now) (g.B.Board.means c.args.board.now) c.loop-place.row-items (search rules)
