-- What map answers.
use Rattle.std.specs.Prelude.{ℕ, Bool, true, false, cond, List, map, length, Some, None, Option, Ok, Err, Result, ◌==◌, nat_lt, nat_le, position}
use Rattle.circuit.specs.Circuit.{Circuit, parts, N, upto, place, is_hit}
use Rattle.circuit.specs.declared.refusal.Reason.{Reason}
use Rattle.circuit.specs.declared.refusal.Reason.TheVariants.{TupleLength, TupleNet, ShortOutput, ShortTaken}
use Rattle.circuit.specs.declared.refusal.Refusal.{Refusal}
use Rattle.matching.specs.declared.answer.MapAnswer.{MapAnswer}
use Rattle.matching.specs.declared.answer.MapAnswer.TheVariants.{Map, NoHit}

-- the place of the first number that is not below n
abbrev pub past : ℕ → List ℕ → Option ℕ
past n xs = position (nat_le n) xs

abbrev pub refuse : Reason → ℕ → Result MapAnswer Refusal
refuse why i = Err (record { reason = why; place = i })

-- a place that was found is refused
abbrev pub unless_past : Option ℕ → Result MapAnswer Refusal → Result MapAnswer Refusal
unless_past (Some i) rest = refuse TupleNet i
unless_past None rest = rest

-- the smallest number first, at its smallest place; then whether the tuple is a hit
abbrev pub verdict : Circuit → Circuit → List ℕ → ℕ → ℕ → Result MapAnswer Refusal
verdict p b t room bytes =
    cond (length t == N p)
    (unless_past (past (N b) t)
    (cond (nat_lt room (parts p)) (refuse ShortOutput 0)
    (cond (nat_lt bytes (parts b)) (refuse ShortTaken 0)
    (Ok (cond (is_hit p b t) Map NoHit)))))
    (refuse TupleLength 0)

abbrev pub is_map : Result MapAnswer Refusal → Bool
is_map (Ok Map) = true
is_map (Ok NoHit) = false
is_map (Err e) = false

-- each pattern part in order gets the smallest untaken board part of its cell
abbrev pub mapped : Circuit → Circuit → List ℕ → List ℕ
mapped p b t = map (place p (N p) b t) (upto (parts p))
