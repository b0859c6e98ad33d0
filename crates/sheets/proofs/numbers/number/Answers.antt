use Rattle.std.proofs.Common.{get_or, refl, sym, arith}
use Rattle.sheets.proofs.Digits.{digit_room, digit_low}
use Rattle.sheets.proofs.numbers.number.Goals as goal

pub overflow_mul-n : goal.overflow_mul-n
overflow_mul-n c =
    let few = c.if-not-is_shaped.ensures.bound refl in
    omega (arith, digit_room c.loop-b.n c.loop-b.b-index 0 c.loop-b.invariant.0 (omega arith) (omega arith))

pub overflow_add-n : goal.overflow_add-n
overflow_add-n c =
    let few = c.if-not-is_shaped.ensures.bound refl in
    let low = digit_low (get_or c.args.bytes.now c.loop-b.b-index 0) (sym c.if-not-is_ascii_digit.ensures.value) in
    omega (arith, digit_room c.loop-b.n c.loop-b.b-index c.from.result c.loop-b.invariant.0 (omega arith) (omega arith))
