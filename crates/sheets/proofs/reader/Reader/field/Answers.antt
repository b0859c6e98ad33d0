use Rattle.std.proofs.Common.{◌≡◌, ℕ, ◌+◌, ◌-◌, ◌≤◌, [], ◌∷◌, length, take, drop, Option, Some, IfSome, sym, refl, ap, ◌∙◌, subst, arith}
use Rattle.std.proofs.lemmas.List.{length-drop, length-take-le}
use Rattle.sheets.specs.Lines.{fields}
use Rattle.sheets.specs.Reading.{text_of, place_of, fields_from}
use Rattle.sheets.proofs.Cuts.{field_at, field_end}
use Rattle.sheets.proofs.Told.{digit_told}
use Rattle.sheets.proofs.reader.Reader.field.Goals as goal
use Rattle.sheets.proofs.reader.Reader.field.Goals.{then-to-end, else-to-end}

pub returns : goal.returns
returns c =
    let a = c.args.self.now in
    let s = a.sheet.now in
    let i : ℕ = c.in_ok-from.from in
    let n = c.before_stop.result in
    let f = c.told_apart.result in
    let was : a.at ≡ Some i = c.in_ok-from.was in
    let cursor = subst (λ o. IfSome o (λ k. (a.line ≤ k) × (k ≤ a.end))) was a.cursor in
    let low : a.line ≤ i = cursor.0 in
    let high : i ≤ a.end = cursor.1 in
    let long = length-take-le (a.end - i) (drop i s) (omega (arith, length-drop i s)) in
    let within : n ≤ a.end - i = omega (arith, c.before_stop.ensures.bound, long) in
    let text = c.told_apart.ensures.bytes in
    let size : length (text_of f) ≡ n = ap length text ∙ length-take-le (i + n - i) (drop i s) (omega (arith, length-drop i s)) ∙ omega arith in
    let left = ap (fields_from s a.end) was in
    let place : a.at ≡ Some (place_of f + a.line) = was ∙ ap Some (omega (arith, c.told_apart.ensures.place)) in
    let after : Option ℕ → Type 0 = λ o. IfSome o (λ k. k ≡ place_of f + a.line + length (text_of f) + 1) in
    elim c.if-to-end.branch [
      | then-to-end w ↦ record {
        sheet = refl;
        line = refl;
        end = refl;
        next = refl;
        text = left ∙ field_at s i a.end n (omega arith) c.before_stop.ensures.value (omega arith) (omega arith) ∙ ap (λ t. t ∷ fields (take (a.end - (i + n + 1)) (drop (i + n + 1) s))) (sym text) ∙ ap (λ gs. text_of f ∷ fields_from s a.end gs) (sym w.self-is);
        number = digit_told f;
        place = place;
        on = subst after (sym w.self-is) (omega (arith, size, c.told_apart.ensures.place));
      }
      | else-to-end w ↦ record {
        sheet = refl;
        line = refl;
        end = refl;
        next = refl;
        text = left ∙ field_end s i a.end n (omega arith) c.before_stop.ensures.value (omega arith) (omega arith) within ∙ ap (λ t. t ∷ []) (sym text) ∙ ap (λ gs. text_of f ∷ fields_from s a.end gs) (sym w.self-is);
        number = digit_told f;
        place = place;
        on = subst after (sym w.self-is) tt;
      }
    ]
