use Rattle.std.proofs.Common.{◌≡◌, [], ◌∷◌, ◌++◌, map, string_bytes, rules, ap, ◌∙◌, arith}
use Rattle.std.proofs.lemmas.List.{take_all}
use Rattle.lines.specs.Written.{spaced}
use Rattle.lines.proofs.Spaces.{item_more}
use Rattle.lines.proofs.line_of.Goals as goal

pub loop-item-preserved : goal.loop-item-preserved
loop-item-preserved g c = (
  search rules,
  search rules,
  λ text known.
      let x = c.item-item.result in
      let bytes : string_bytes c.write.new.self ≡ string_bytes c.loop-item.line ++ (c.loop-item.gap.now ++ text x) = rw (known x) at c.in_ok-write.ensures.bytes in
      bytes
      ∙ ap (λ z. z ++ (c.loop-item.gap.now ++ text x)) (c.loop-item.invariant.2 text known)
      ∙ item_more text c.args.items.now c.loop-item.item-index x c.loop-item.gap.now c.loop-item-test.true c.item-item.is c.loop-item.invariant.1,
)

pub returns : goal.returns
returns g c text known =
    c.in_ok-push_str.ensures.bytes
    ∙ ap (λ z. z ++ 10 ∷ []) (c.loop-item.invariant.2 text known)
    ∙ ap (λ xs. spaced (map text xs) ++ 10 ∷ []) (take_all c.loop-item.item-index c.args.items.now (omega arith))
