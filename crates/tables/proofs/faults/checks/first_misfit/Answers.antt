use Rattle.std.proofs.Common.{Option, MatchOption, sym, subst}
use Rattle.tables.specs.Faults.{Fitting, Wrong}
use Rattle.tables.specs.declared.faults.Misfit.{Misfit}
use Rattle.tables.proofs.Checks.{climbs, under, rises_from_spans}
use Rattle.tables.proofs.faults.checks.first_misfit.Goals as goal

pub returns-in_err-first_stray-in-None : goal.returns-in_err-first_stray-in-None
returns-in_err-first_stray-in-None c =
    let n = c.args.n in
    let es = c.args.ends.now in
    let js = c.args.joins.now in
    let (spans, closes) = c.in-None.ensures in
    let all = c.in_err-first_stray-in-None.ensures in
    let rises = rises_from_spans c.args.least es spans in
    let R : Option Misfit → Type 0 = λ (r : Option Misfit). MatchOption r (Fitting n c.args.least es js) (λ m. Wrong n c.args.least es js m) in
    subst R (sym c.from_residual.ensures) (record {
      spans = spans;
      closes = closes;
      climbs = climbs n es js rises closes all;
      under = under n es js rises closes all;
    })
