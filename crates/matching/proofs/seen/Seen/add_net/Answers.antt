use Rattle.std.proofs.Common.{◌≡◌, ℕ, ◌+◌, ◌<◌, [], ◌∷◌, ◌++◌, length, get_or, sym, ap, ◌∙◌, subst, arith}
use Rattle.circuit.specs.Circuit.{net, mask, class}
use Rattle.tally.specs.declared.table.Tally.{Tally}
use Rattle.matching.specs.declared.cell.Cell.{Cell}
use Rattle.tally.specs.InUse.{in_use}
use Rattle.tally.specs.Tallies.{tallied}
use Rattle.tally.proofs.Counts.{put_more}
use Rattle.matching.specs.Orders.{by_cell}
use Rattle.matching.specs.Keys.{cell_of}
use Rattle.matching.proofs.Adding.{so_far, far_room, far_more, far_same, far_all, fresh_yes, fresh_no}
use Rattle.matching.proofs.seen.Seen.add_net.Goals as goal
use Rattle.matching.proofs.seen.Seen.add_net.Goals.{then-mask-earlier-eq0, else-mask-earlier-eq0}

pub loop-k-preserved : goal.loop-k-preserved
loop-k-preserved g c =
    let m = g.C.Board.means c.args.self.now.circuit.now in
    let s = c.args.self.now.start.now in
    let i = c.args.i in
    let k = c.loop-k.k in
    let h : k < length (net m (get_or s i 0)) = omega (arith, ap (λ (f : ℕ). length (net m f)) c.requires.net) in
    let l : i < 16 = omega (arith, c.args.self.now.short, c.requires.there) in
    let v : c.part_of-v.result ≡ get_or (net m (get_or s i 0)) k 0 = c.part_of-v.ensures ∙ ap (λ (f : ℕ). get_or (net m f) k 0) c.requires.net in
    let mk : c.mask-mask.result ≡ mask m s c.part_of-v.result = c.mask-mask.ensures in
    let inv = c.loop-k.invariant in
    let T : Tally Cell → Type 0 = λ t.
    (t.entries.ghost_name ≡ c.args.tally.now.entries.ghost_name)
    × (length t.entries.now ≡ length c.args.tally.now.entries.now)
    × (in_use t ≡ tallied by_cell (so_far m s i (k + 1)))
    in
    elim c.if-mask-earlier-eq0.branch [
      | then-mask-earlier-eq0 w ↦
          let p = w.put.ensures in
          let cell : Cell = record { class = w.class_of-class.result; mask = c.mask-mask.result } in
          let same : cell ≡ cell_of m s c.part_of-v.result = ap (λ (n : ℕ). record { class = n; mask = c.mask-mask.result }) w.class_of-class.ensures ∙ ap (λ (n : ℕ). record { class = class m c.part_of-v.result; mask = n }) mk in
          let es = in_use c.loop-k.tally in
          let room = length c.loop-k.tally.entries.now in
          let fits = far_room m s i k h room es cell inv.2 (omega (arith, c.requires.room, inv.1)) c.requires.low in
          subst T (sym w.tally-is) (
            p.lender ∙ inv.0,
            p.room ∙ inv.1,
            put_more by_cell (so_far m s i k) cell es _ room inv.2 fits p.after
                ∙ ap (λ (z : Cell). tallied by_cell (so_far m s i k ++ z ∷ [])) (same ∙ ap (cell_of m s) v)
                ∙ ap (tallied by_cell) (sym (far_more m s i k h (fresh_yes m s i _ _ _ mk v l w.if-mask-earlier-eq0.true))),
          )
      | else-mask-earlier-eq0 w ↦
          subst T (sym w.tally-is) (
            inv.0,
            inv.1,
            inv.2 ∙ ap (tallied by_cell) (sym (far_same m s i k h (fresh_no m s i _ _ _ mk v l w.if-mask-earlier-eq0.false))),
          )
    ]

pub returns-clause-after : goal.returns-clause-after
returns-clause-after g c =
    let m = g.C.Board.means c.args.self.now.circuit.now in
    let s = c.args.self.now.start.now in
    c.loop-k.invariant.2 ∙ ap (tallied by_cell) (far_all m s c.args.i c.loop-k.k (omega (arith, ap (λ (f : ℕ). length (net m f)) c.requires.net)))
