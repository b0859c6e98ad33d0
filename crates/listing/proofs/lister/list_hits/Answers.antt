use Rattle.std.proofs.Common.{ℕ, Bool, List, [], sym, refl, subst, arith}
use Rattle.circuit.specs.Circuit.{N, Circuit}
use Rattle.pattern.specs.Drawn.{drawn}
use Rattle.pattern.specs.Kept.{nets_some}
use Rattle.promise.specs.Order.{Mark}
use Rattle.promise.specs.Promise.{Run, opened}
use Rattle.promise.specs.Hits.{rules_of}
use Rattle.search.specs.Held.{bookmark}
use Rattle.sieves.specs.Counts.{looked_up}
use Rattle.sieves.specs.declared.table.TableSieve.{TableSieve}
use Rattle.listing.specs.declared.step.Step.TheVariants.{Found, Done, Rested}
use Rattle.listing.proofs.Chains.{only_more, stepped_on, found_falls, rested_falls, found_more, rested_more, done, broken_off}
use Rattle.listing.proofs.lister.list_hits.Goals as goal

-- what a table sieve keeps
abbrev keeps : TableSieve → Circuit → Circuit → List ℕ → Bool
keeps s p b = looked_up s.fits

pub loop-out-init : goal.loop-out-init
loop-out-init g c =
    let p = drawn c.args.pattern.now in
    let b = g.B.Board.means c.args.board.now in
    let R = rules_of p b (looked_up c.open-search.new.sieve.fits) in
    (record { pattern = refl; board = refl; sieve = refl }, ([], 0, subst (λ (k : Mark). Run R k [] 0) (sym c.open-search.ensures.stands) opened, refl), omega arith)

pub loop-out-smaller-in-Found : goal.loop-out-smaller-in-Found
loop-out-smaller-in-Found g c =
    let p = drawn c.args.pattern.now in
    let b = g.B.Board.means c.args.board.now in
    let w = g.W.Sink.writes in
    let step = stepped_on w g.B.Board.means keeps c.step.new.self.search c.loop-out.out c.step.new.out Found c.loop-out.invariant.0 (rw c.in-Found.is at c.in_ok-step.ensures.stepped) in
    found_falls w p b (looked_up c.open-search.new.sieve.fits) (nets_some c.args.pattern.now) c.args.out.now c.loop-out.out c.step.new.out (bookmark (N p) (N b) c.loop-out.lister.search) (bookmark (N p) (N b) c.step.new.self.search) c.loop-out.invariant.1 step

pub loop-out-preserved-in-Found : goal.loop-out-preserved-in-Found
loop-out-preserved-in-Found g c =
    let p = drawn c.args.pattern.now in
    let b = g.B.Board.means c.args.board.now in
    let w = g.W.Sink.writes in
    let step = stepped_on w g.B.Board.means keeps c.step.new.self.search c.loop-out.out c.step.new.out Found c.loop-out.invariant.0 (rw c.in-Found.is at c.in_ok-step.ensures.stepped) in (
      only_more c.loop-out.invariant.0 c.in_ok-step.ensures.only,
      found_more w p b (looked_up c.open-search.new.sieve.fits) c.args.out.now c.loop-out.out c.step.new.out (bookmark (N p) (N b) c.loop-out.lister.search) (bookmark (N p) (N b) c.step.new.self.search) c.loop-out.invariant.1 step,
      c.loop-out.invariant.2,
    )

pub returns-in-Done : goal.returns-in-Done
returns-in-Done g c =
    let p = drawn c.args.pattern.now in
    let b = g.B.Board.means c.args.board.now in
    let w = g.W.Sink.writes in
    let step = stepped_on w g.B.Board.means keeps c.step.new.self.search c.loop-out.out c.step.new.out Done c.loop-out.invariant.0 (rw c.in-Done.is at c.in_ok-step.ensures.stepped) in
    done w p b (looked_up c.open-search.new.sieve.fits) c.open-search.ensures.promise c.put_ending.result c.args.out.now c.loop-out.out c.step.new.out _ (bookmark (N p) (N b) c.loop-out.lister.search) (bookmark (N p) (N b) c.step.new.self.search) c.loop-out.invariant.1 step c.put_ending.ensures

pub returns-then-pauses-eq-MOST_PAUSES : goal.returns-then-pauses-eq-MOST_PAUSES
returns-then-pauses-eq-MOST_PAUSES g c =
    let p = drawn c.args.pattern.now in
    let b = g.B.Board.means c.args.board.now in
    let w = g.W.Sink.writes in
    let step = stepped_on w g.B.Board.means keeps c.step.new.self.search c.loop-out.out c.step.new.out Rested c.loop-out.invariant.0 (rw c.in-Rested.is at c.in_ok-step.ensures.stepped) in
    let so = rested_more w p b (looked_up c.open-search.new.sieve.fits) c.args.out.now c.loop-out.out c.step.new.out (bookmark (N p) (N b) c.loop-out.lister.search) (bookmark (N p) (N b) c.step.new.self.search) c.loop-out.invariant.1 step in
    broken_off w p b (looked_up c.open-search.new.sieve.fits) c.open-search.ensures.promise c.put_ending-then-pauses-eq-MOST_PAUSES.result c.args.out.now c.step.new.out _ (bookmark (N p) (N b) c.step.new.self.search) so c.put_ending-then-pauses-eq-MOST_PAUSES.ensures

pub loop-out-smaller : goal.loop-out-smaller
loop-out-smaller g c =
    let p = drawn c.args.pattern.now in
    let b = g.B.Board.means c.args.board.now in
    let w = g.W.Sink.writes in
    let step = stepped_on w g.B.Board.means keeps c.step.new.self.search c.loop-out.out c.step.new.out Rested c.loop-out.invariant.0 (rw c.in-Rested.is at c.in_ok-step.ensures.stepped) in
    rested_falls w p b (looked_up c.open-search.new.sieve.fits) (nets_some c.args.pattern.now) c.args.out.now c.loop-out.out c.step.new.out (bookmark (N p) (N b) c.loop-out.lister.search) (bookmark (N p) (N b) c.step.new.self.search) c.loop-out.invariant.1 step

pub loop-out-preserved : goal.loop-out-preserved
loop-out-preserved g c =
    let p = drawn c.args.pattern.now in
    let b = g.B.Board.means c.args.board.now in
    let w = g.W.Sink.writes in
    let step = stepped_on w g.B.Board.means keeps c.step.new.self.search c.loop-out.out c.step.new.out Rested c.loop-out.invariant.0 (rw c.in-Rested.is at c.in_ok-step.ensures.stepped) in (
      only_more c.loop-out.invariant.0 c.in_ok-step.ensures.only,
      rested_more w p b (looked_up c.open-search.new.sieve.fits) c.args.out.now c.loop-out.out c.step.new.out (bookmark (N p) (N b) c.loop-out.lister.search) (bookmark (N p) (N b) c.step.new.self.search) c.loop-out.invariant.1 step,
      omega arith,
    )
