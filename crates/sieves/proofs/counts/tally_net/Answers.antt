use Rattle.std.proofs.Common.{◌≡◌, ℕ, ◌<◌, [], ◌∷◌, ◌++◌, map, length, get_or, take, sym, ap, ◌∙◌, arith}
use Rattle.circuit.specs.Circuit.{net, class}
use Rattle.tally.specs.InUse.{in_use}
use Rattle.tally.specs.Tallies.{tallied}
use Rattle.tally.proofs.Counts.{put_more}
use Rattle.sieves.proofs.Tallied.{so_far_more, so_far_room}
use Rattle.sieves.proofs.counts.tally_net.Goals as goal
use Rattle.std.specs.Ordering.{nat_cmp}

pub loop-k-preserved : goal.loop-k-preserved
loop-k-preserved g c =
    let m = g.C.Board.means c.args.c.now in
    let f = c.args.f in
    let k = c.loop-k.k in
    let inv = c.loop-k.invariant in
    let p = c.put.ensures in
    let es = in_use c.loop-k.tally in
    let room = length c.loop-k.tally.entries.now in
    let h : k < length (net m f) = omega arith in
    let cls : c.class_of.result ≡ class m (get_or (net m f) k 0) = c.class_of.ensures ∙ ap (class m) c.part_of.ensures in
    let fits = so_far_room m f k h room es c.class_of.result inv.2 (omega (arith, c.requires, inv.1, ap length c.over-tally.ensures.room)) (omega (arith, c.size-k-end.type_inv)) in (
      p.lender ∙ inv.0,
      p.room ∙ inv.1,
      put_more nat_cmp (map (class m) (take k (net m f))) c.class_of.result es _ room inv.2 fits p.after
          ∙ ap (λ (x : ℕ). tallied nat_cmp (map (class m) (take k (net m f)) ++ x ∷ [])) cls
          ∙ ap (tallied nat_cmp) (sym (so_far_more m f k h)),
    )
