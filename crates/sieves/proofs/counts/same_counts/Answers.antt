use Rattle.std.proofs.Common.{sym, ◌∙◌, arith}
use Rattle.circuit.proofs.Nets.{net_few}
use Rattle.pattern.specs.Drawn.{drawn}
use Rattle.pattern.specs.Kept.{drawn_sound, parts_few}
use Rattle.sieves.proofs.Tallied.{level_counts, unlike_sizes}
use Rattle.sieves.proofs.counts.same_counts.Goals as goal

pub returns-then-size : goal.returns-then-size
returns-then-size g c =
    unlike_sizes (drawn c.args.p.now) (drawn_sound c.args.p.now) c.args.i (g.B.Board.means c.args.b.now) (g.B.Board.sound c.args.b.now) c.args.f
    (λ e. c.if-size.true (c.size.ensures ∙ e ∙ sym c.size-2.ensures))

pub tally_net-requires : goal.tally_net-requires
tally_net-requires g c =
    let p = drawn c.args.p.now in
    omega (arith, net_few p (drawn_sound c.args.p.now) c.args.i, parts_few c.args.p.now)

pub tally_net-requires-2 : goal.tally_net-requires-2
tally_net-requires-2 g c =
    let p = drawn c.args.p.now in
    omega (arith, net_few p (drawn_sound c.args.p.now) c.args.i, parts_few c.args.p.now, c.size.ensures)

pub returns : goal.returns
returns g c =
    level_counts (drawn c.args.p.now) (drawn_sound c.args.p.now) c.args.i (g.B.Board.means c.args.b.now) (g.B.Board.sound c.args.b.now) c.args.f _ _
    c.tally_net.ensures c.tally_net-2.ensures c.agree.result c.agree.ensures
