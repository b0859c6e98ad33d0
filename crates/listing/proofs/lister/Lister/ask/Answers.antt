use Rattle.std.proofs.Common.{⊎_elim, arith}
use Rattle.pattern.specs.Kept.{nets_few}
use Rattle.listing.proofs.lister.Lister.ask.Goals as goal

pub unreachable-requires : goal.unreachable-requires
unreachable-requires g c =
    ⊎_elim
    (λ q. q.1 (omega arith, omega arith))
    (λ q. omega (arith, q.2, c.requires, nets_few c.args.self.now.pattern.now))
    c.in-Err.ensures.answers.0
