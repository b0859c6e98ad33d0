use Rattle.std.proofs.Common.{◌≡◌, ◌^◌, ◌<◌, drop}
use Rattle.std.specs.Str.{all_ascii_digits}
use Rattle.sheets.specs.Numbers.{value_on}
use Rattle.sheets.proofs.numbers.number.Given as goal

abbrev pub invariant-loop-b : goal.invariant-loop-b
invariant-loop-b l = (l.n < 10 ^ l.b-index) × (value_on l.n (drop l.b-index l.bytes) ≡ value_on 0 l.bytes) × (all_ascii_digits (drop l.b-index l.bytes) ≡ all_ascii_digits l.bytes)
