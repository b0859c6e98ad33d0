use Rattle.std.proofs.Common.{◌≡◌, ℕ, suc, ◌+◌, ◌<◌, length, get_or, slice_range, sym, ap, subst, arith}
use Rattle.tables.specs.Tables.{start}
use Rattle.tables.specs.Faults.{Fine, StrayIn, Stray}
use Rattle.tables.specs.Cuts.{end_within}
use Rattle.tables.proofs.Nets.{fine_more, stray_more}
use Rattle.tables.proofs.faults.checks.first_stray.Goals as goal

pub slice_bounds-stray_in-end : goal.slice_bounds-stray_in-end
slice_bounds-stray_in-end c =
    omega (arith, end_within c.args.ends.now c.args.joins.now c.loop-end.end-index c.requires.rises c.requires.closes c.loop-end-test.true)

pub returns-in-Some : goal.returns-in-Some
returns-in-Some c =
    let n = c.args.n in
    let es = c.args.ends.now in
    let js = c.args.joins.now in
    let i = c.loop-end.end-index in
    let k = c.in-Some.k in
    let room = end_within es js i c.requires.rises c.requires.closes c.loop-end-test.true in
    let F : ℕ → Type 0 = λ (x : ℕ). StrayIn n (slice_range js x (get_or es i 0)) k → Stray n es js (x + k) in
    subst F (sym c.loop-end.invariant.begins) (stray_more n es js i room c.loop-end.invariant.fine k c.requires.rises c.loop-end-test.true) c.in-Some.ensures

pub loop-end-preserved : goal.loop-end-preserved
loop-end-preserved c =
    let n = c.args.n in
    let es = c.args.ends.now in
    let js = c.args.joins.now in
    let i = c.loop-end.end-index in
    let room = end_within es js i c.requires.rises c.requires.closes c.loop-end-test.true in
    let F : ℕ → Type 0 = λ (x : ℕ). (k : ℕ) → k < length (slice_range js x (get_or es i 0)) → Fine n (slice_range js x (get_or es i 0)) 0 k in
    record {
      begins = let e : suc i ≡ i + 1 = omega arith in ap (start es) e;
      fine = fine_more n es js i room c.loop-end.invariant.fine (subst F c.loop-end.invariant.begins c.in_default.ensures);
    }
