use Rattle.std.proofs.Common.{◌≡◌, ℕ, true, None, length, sym, ap, ◌∙◌, arith}
use Rattle.std.proofs.lemmas.Bool.{and_parts, and_from}
use Rattle.std.proofs.lemmas.List.{length-replicate}
use Rattle.circuit.specs.Circuit.{N, meets_cell_rule}
use Rattle.pattern.specs.Drawn.{drawn}
use Rattle.pattern.specs.Kept.{nets_few}
use Rattle.matching.specs.Mapped.{past}
use Rattle.matching.proofs.Verdicts.{verdict_hit}
use Rattle.matching.proofs.mapping.map.Goals as goal

pub returns-clause-answer : goal.returns-clause-answer
returns-clause-answer g c =
    let p = drawn c.args.p.now in
    let b = g.B.Board.means c.args.b.now in
    let t = c.args.tuple.now in
    let q : length c.over-guard.result.bytes.now ≡ length c.args.taken.now = ap length c.over-guard.ensures.after ∙ length-replicate (length c.args.taken.now) 0 in
    let none : past (N b) t ≡ None = ap (λ (n : ℕ). past n t) (sym c.nets-2.ensures) ∙ sym c.first_past.ensures ∙ c.in_default.is in
    let long : length t ≡ N p = c.if-tuple-nets.false ∙ c.nets.ensures in
    let rule : meets_cell_rule p (N p) b t ≡ true = ap (λ (k : ℕ). meets_cell_rule p k b t) (sym long) ∙ (and_parts _ _ (sym c.if-not-holds.ensures.rule)).1 in
    verdict_hit p b t (length c.args.out.now) (length c.args.taken.now) long
    none (omega (arith, c.parts.ensures, c.if-out-parts.false)) (omega (arith, q, c.parts-2.ensures, c.len.ensures, c.if-len-parts.false))
    (and_from _ _ (sym c.if-not-differ.ensures) rule)

pub under-requires : goal.under-requires
under-requires g c = omega (arith, c.if-tuple-nets.false, c.nets.ensures, nets_few c.args.p.now)
