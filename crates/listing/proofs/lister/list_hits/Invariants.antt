use Rattle.std.proofs.Common.{◌<◌}
use Rattle.circuit.specs.Circuit.{N}
use Rattle.pattern.specs.Drawn.{drawn}
use Rattle.promise.specs.Hits.{rules_of}
use Rattle.promise.proofs.Left.{left}
use Rattle.search.specs.Held.{bookmark}
use Rattle.sieves.specs.Counts.{looked_up}
use Rattle.listing.specs.Going.{OnlySearched}
use Rattle.listing.proofs.Chains.{SoFar}
use Rattle.listing.proofs.lister.list_hits.Given as goal

abbrev pub invariant-loop-out : goal.invariant-loop-out
invariant-loop-out g l =
    let p = drawn l.pattern in
    let b = g.B.Board.means l.board in
    OnlySearched l.initial.lister l.lister
    × SoFar g.W.Sink.writes p b (looked_up l.initial.lister.sieve.now.fits) l.initial.out (bookmark (N p) (N b) l.lister.search) l.out
    × (l.pauses < 1000)

abbrev pub decreases-loop-out : goal.decreases-loop-out
decreases-loop-out g l =
    let p = drawn l.pattern in
    let b = g.B.Board.means l.board in
    left (rules_of p b (looked_up l.initial.lister.sieve.now.fits)) (bookmark (N p) (N b) l.lister.search)
