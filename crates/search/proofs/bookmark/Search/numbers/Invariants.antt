use Rattle.std.proofs.Common.{◌≡◌, length, take}
use Rattle.search.specs.Held.{nets}
use Rattle.search.proofs.bookmark.Search.numbers.Given as goal

abbrev pub invariant-loop-place : goal.invariant-loop-place
invariant-loop-place l = (take l.place l.numbers ≡ nets (take l.place l.level-items)) × (length l.numbers ≡ 16)
