-- What the check of a flat board's tables shows.
use Rattle.std.proofs.Common.{◌≡◌, ℕ, suc, ◌+◌, ◌-◌, ◌<◌, ◌≤◌, List, ◌∷◌, length, get_or, sym, ap, subst, ⊎_elim, arith}
use Rattle.circuit.specs.declared.refusal.Reason.{Reason}
use Rattle.circuit.specs.declared.refusal.Refusal.{Refusal}
use Rattle.tables.specs.Tables.{start}
use Rattle.tables.specs.Faults.{Fine, Wrong}
use Rattle.tables.specs.declared.faults.Misfit.{Misfit}
use Rattle.tables.specs.declared.faults.Misfit.TheVariants.{End, Join}
use Rattle.tables.proofs.Checks.{rising}
use Rattle.boards.specs.Flat.{Good}
use Rattle.boards.specs.Faults.{Limits, Refused, limit, end, part_order, by_misfit}

fine_from_good : (classes ends joins : List ℕ) → Good classes ends joins → (f k : ℕ) → f < length ends → start ends f ≤ k → k < get_or ends f 0 → Fine (length classes) joins (start ends f) k
fine_from_good classes ends joins g f k h l u =
    let last : get_or (0 ∷ ends) (suc f) 0 ≤ get_or (0 ∷ ends) (length ends) 0 = rising 0 ends (suc f) (length ends) g.rises (omega arith) (omega arith) in
    record {
      part = g.under k (omega (arith, last, g.closes));
      above = λ b.
          let e : k - 1 + 1 ≡ k = omega arith in
          let q = g.climbs f (k - 1) (h, omega arith, omega arith) in
          omega (arith, q, ap (λ j. get_or joins j 0) e);
    }

-- tables that are refused make no board
pub refused_bad : {classes ends joins : List ℕ} {n : Reason} {p : ℕ} → Refused classes ends joins n p → Good classes ends joins → ⊥
refused_bad (limit h) g = ⊎_elim (λ q. omega (arith, g.few_parts)) (⊎_elim (λ q. omega (arith, g.few_nets)) (λ q. omega (arith, g.few_joins))) h
refused_bad (end f lim w) g = ⊎_elim (λ q. omega (arith, g.rises f q.0, q.2)) (λ q. q.2 g.closes) w
refused_bad {classes} {ends} {joins} (part_order k lim r q s) g = s.bad (fine_from_good classes ends joins g s.net k s.there s.from s.to)

-- a wrong end or join is refused as the definition has it
pub refused_for : (classes ends joins : List ℕ) (m : Misfit) (e : Refusal) → e ≡ by_misfit m → Limits classes ends joins → Wrong (length classes) 0 ends joins m
    → Refused classes ends joins e.reason e.place
refused_for classes ends joins (End f) e is lim w =
    let R : Refusal → Type 0 = λ x. Refused classes ends joins x.reason x.place in subst R (sym is) (end f lim w)
refused_for classes ends joins (Join k) e is lim w =
    let R : Refusal → Type 0 = λ x. Refused classes ends joins x.reason x.place in subst R (sym is) (part_order k lim w.0 w.1 w.2)
