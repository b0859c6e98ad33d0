use Rattle.std.proofs.Common.{◌≡◌, take, drop}
use Rattle.circuit.specs.Circuit.{N}
use Rattle.promise.specs.Search.{opening}
use Rattle.promise.specs.Hits.{rules_of}
use Rattle.pattern.specs.Drawn.{drawn}
use Rattle.search.specs.Held.{bookmark}
use Rattle.runs.specs.Whole.{Through}
use Rattle.runs.proofs.run.Given as goal

abbrev pub invariant-loop-call : goal.invariant-loop-call
invariant-loop-call g l =
    let p = drawn l.pattern in
    let b = g.B.Board.means l.board in
    let R = rules_of p b (g.S.Sieve.keeps l.sieve p b) in
    Through R (opening R) (take l.call-index l.initial.calls) (take l.call-index l.calls) (bookmark (N p) (N b) l.search)
    × (drop l.call-index l.calls ≡ drop l.call-index l.initial.calls)
