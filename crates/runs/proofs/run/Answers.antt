-- Opening, then call after call.
use Rattle.std.proofs.Common.{List, [], Ok, refl, subst₂, arith}
use Rattle.std.proofs.lemmas.List.{take_all}
use Rattle.circuit.specs.Circuit.{N}
use Rattle.promise.specs.Search.{opening}
use Rattle.promise.specs.Hits.{rules_of}
use Rattle.pattern.specs.Drawn.{drawn}
use Rattle.search.specs.Held.{bookmark}
use Rattle.search.specs.declared.calls.Answer.TheVariants.{Hit}
use Rattle.runs.specs.declared.call.Call.{Call}
use Rattle.runs.specs.Whole.{Through}
use Rattle.runs.proofs.Joined.{step, whole}
use Rattle.runs.proofs.run.Goals as goal

pub loop-call-preserved : goal.loop-call-preserved
loop-call-preserved g c =
    let p = drawn c.args.pattern.now in
    let b = g.B.Board.means c.args.board.now in
    let R = rules_of p b (g.S.Sieve.keeps c.open-search.new.sieve p b) in
    let none : Call = record { budget = 0; row = []; answer = Ok (Hit 0) } in
    step R c.args.calls.now c.loop-call.calls c.loop-call.call-index none _ (opening R) (bookmark (N p) (N b) c.loop-call.search) (bookmark (N p) (N b) c.next-call.new.self)
    c.loop-call-test.true c.loop-call.auto.calls c.loop-call.invariant.0 c.loop-call.invariant.1 refl c.next-call.ensures.answers

pub returns : goal.returns
returns g c =
    let p = drawn c.args.pattern.now in
    let b = g.B.Board.means c.args.board.now in
    let keeps = g.S.Sieve.keeps c.open-search.new.sieve p b in
    let R = rules_of p b keeps in
    let m = g.met.L.Label in
    let k = bookmark (N p) (N b) c.loop-call.search in
    let i = c.loop-call.call-index in
    let all = take_all i c.args.calls.now c.loop-call-test.false in
    let made = take_all i c.loop-call.calls (omega (arith, c.loop-call.auto.calls, c.loop-call-test.false)) in
    whole g.L.Label.proper g.L.Label.same m.itself m.turned m.chained c.args._pattern_labels.now c.args._board_labels.now p b keeps
    c.args.calls.now c.loop-call.calls k c.open-search.ensures.promise
    (subst₂ (λ (xs ys : List Call). Through R (opening R) xs ys k) all made c.loop-call.invariant.0)
