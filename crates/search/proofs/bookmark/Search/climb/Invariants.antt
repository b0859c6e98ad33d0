use Rattle.std.proofs.Common.{◌≡◌, ◌≤◌, length}
use Rattle.circuit.specs.Circuit.{AllBelow}
use Rattle.promise.specs.Search.{raise}
use Rattle.search.specs.Held.{held}
use Rattle.search.proofs.bookmark.Search.climb.Given as goal

abbrev pub invariant-loop-level : goal.invariant-loop-level
invariant-loop-level l =
    (raise l.span.nets (held l.self) ≡ raise l.span.nets (held l.initial.self))
    × (length l.self.levels.items ≤ length l.initial.self.levels.items)
    × AllBelow l.span.nets (held l.self)

abbrev pub decreases-loop-level : goal.decreases-loop-level
decreases-loop-level l = length l.self.levels.items
