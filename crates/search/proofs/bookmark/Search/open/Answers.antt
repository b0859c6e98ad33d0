-- All that is promised of a search that was just opened holds.
use Rattle.promise.proofs.Lawful.{promised}
use Rattle.pattern.specs.Drawn.{drawn}
use Rattle.pattern.specs.Kept.{drawn_sound, nets_some}
use Rattle.search.proofs.bookmark.Search.open.Goals as goal

pub returns-clause-promise : goal.returns-clause-promise
returns-clause-promise g c =
    let p = drawn c.args.pattern.now in
    let b = g.B.Board.means c.args.board.now in
    promised p b (drawn_sound c.args.pattern.now) (g.B.Board.sound c.args.board.now) (g.S.Sieve.keeps c.ready.new.self p b) (nets_some c.args.pattern.now) c.ready.ensures
