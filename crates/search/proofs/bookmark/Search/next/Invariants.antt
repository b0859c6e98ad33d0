use Rattle.std.proofs.Common.{◌≡◌, ◌-◌, ◌<◌, length, take}
use Rattle.promise.specs.Search.{Quiet}
use Rattle.promise.specs.Hits.{passing}
use Rattle.pattern.specs.Drawn.{drawn}
use Rattle.search.specs.Held.{held, standing, bookmark, Sits, rules}
use Rattle.search.proofs.bookmark.Search.next.Given as goal

abbrev pub invariant-loop-made : goal.invariant-loop-made
invariant-loop-made g l =
    let p = drawn l.pattern in
    let b = g.B.Board.means l.board in
    Quiet (rules l.span.m l.span.nets (passing p b (g.S.Sieve.keeps l.sieve p b))) (l.made - 1) (bookmark l.span.m l.span.nets l.initial.self) (standing (held l.self))
    × Sits l.span.m l.span.nets l.self
    × (0 < length l.self.levels.items)
    × (l.row ≡ l.initial.row)
    × (l.tries.pattern.now ≡ l.pattern)
    × (l.tries.board.now ≡ l.board)
    × (l.tries.sieve.now ≡ l.sieve)
    × (take (length l.self.levels.items) l.numbers ≡ held l.self)
    × (length l.numbers ≡ 16)
