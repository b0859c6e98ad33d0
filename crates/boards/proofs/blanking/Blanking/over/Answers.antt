use Rattle.boards.proofs.Marks.{blank_none}
use Rattle.boards.proofs.blanking.Blanking.over.Goals as goal

pub returns-clause-fresh : goal.returns-clause-fresh
returns-clause-fresh g c = blank_none 4096 (g.B.Board.means c.args.board)
