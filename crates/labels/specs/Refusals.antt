-- What labelling answers: the smallest number first, at its smallest place.
use Rattle.std.specs.Prelude.{ℕ, ◌+◌, Bool, cond, ◌||◌, List, length, Ok, Err, Result, nat_lt}
use Rattle.labels.specs.Classes.{unfit}
use Rattle.circuit.specs.declared.refusal.Reason.{Reason}
use Rattle.circuit.specs.declared.refusal.Reason.TheVariants.{LabelCount, ClassRoom, UnfitLabel}
use Rattle.circuit.specs.declared.refusal.Refusal.{Refusal}

abbrev pub refused : Reason → ℕ → Result (Unit {0}) Refusal
refused why p = Err (record { reason = why; place = p })

abbrev pub verdict : {L : Type 0} → (L → Bool) → List L → List L → ℕ → ℕ → Result (Unit {0}) Refusal
verdict proper ps bs pn bn =
    cond (nat_lt 64 (length ps) || nat_lt 4096 (length bs)) (refused LabelCount 0)
    (cond (nat_lt pn (length ps) || nat_lt bn (length bs)) (refused ClassRoom 0)
    (cond (nat_lt (unfit proper ps) (length ps)) (refused UnfitLabel (unfit proper ps))
    (cond (nat_lt (unfit proper bs) (length bs)) (refused UnfitLabel (64 + unfit proper bs))
    (Ok tt))))
