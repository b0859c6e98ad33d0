use Rattle.std.proofs.Common.{ap}
use Rattle.boards.proofs.Checks.{refused_bad}
use Rattle.boards.proofs.flat.FlatBoard.make.Goals as goal
use Rattle.boards.proofs.flat.FlatBoard.make.Goals.{in-Ok, in-Err}

pub returns-clause-good : goal.returns-clause-good
returns-clause-good c = elim c.match-check.branch [
  | in-Ok w ↦ λ g. let e = w.result-is in (ap (λ r. r.0.classes.now) e, ap (λ r. r.0.ends.now) e, ap (λ r. r.0.joins.now) e)
  | in-Err w ↦ λ g. let z : ⊥ = refused_bad w.in-Err.ensures g in elim z [ ]
]
