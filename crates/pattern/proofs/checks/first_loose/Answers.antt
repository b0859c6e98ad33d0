use Rattle.std.proofs.Common.{◌≡◌, ℕ, ◌<◌, ◌≤◌, true, false, List, Option, Some, None, MatchOption, arith, rules}
use Rattle.std.proofs.lemmas.Iterator.{first_from_Range}
use Rattle.circuit.specs.Circuit.{member}
use Rattle.pattern.specs.Whole.{Covers}
use Rattle.pattern.specs.Faults.{Loose}
use Rattle.pattern.proofs.checks.first_loose.Goals as goal

-- the first of a range that is found to be free
loose : (joins : List ℕ) (n : ℕ) → (r : Option ℕ)
    → MatchOption r ((v : ℕ) → 0 ≤ v → v < n → member joins v ≡ true) (λ v. (0 ≤ v) × (v < n) × (member joins v ≡ false) × ((w : ℕ) → 0 ≤ w → w < v → member joins w ≡ true))
    → MatchOption r (Covers joins n) (λ v. Loose n joins v)
loose joins n None h = λ v l. h v (omega arith) l
loose joins n (Some v) h = record { part = h.1; free = h.2; earlier = λ w l. h.3 w (omega arith) l }

pub returns : goal.returns
returns c =
    let joins = c.args.joins.now in
    loose joins c.args.n c.find.result
    (first_from_Range _ _ _ c.find.result (λ v. member joins v ≡ false) (λ v. member joins v ≡ true) c.find.ensures.ran (λ x q k. search rules) (λ x q k. search rules))
