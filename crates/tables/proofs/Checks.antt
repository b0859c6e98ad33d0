-- What the check of the tables shows.
use Rattle.std.proofs.Common.{◌≡◌, ℕ, zero, suc, ◌+◌, ◌-◌, ◌<◌, ◌≤◌, List, [], ◌∷◌, length, get_or, ap, ⊎_elim, arith}
use Rattle.std.proofs.lemmas.Bool.{cases_lt}
use Rattle.tables.specs.Tables.{Spans, Rises, Closes, Climbs, Below}
use Rattle.tables.specs.Faults.{AllFine}

-- ends do not fall
pub rising : (a : ℕ) (es : List ℕ) (i j : ℕ) → ((k : ℕ) → k < length es → get_or (a ∷ es) k 0 ≤ get_or es k 0) → i ≤ j → j ≤ length es → get_or (a ∷ es) i 0 ≤ get_or (a ∷ es) j 0
rising a es zero zero r h l = omega arith
rising a [] i (suc j) r h l = let z : ⊥ = omega arith in elim z [ ]
rising a es (suc i) zero r h l = let z : ⊥ = omega arith in elim z [ ]
rising a (e ∷ es) zero (suc j) r h l = let k = rising e es 0 j (λ k q. r (suc k) (omega arith)) (omega arith) (omega arith) in let q : a ≤ e = r 0 (omega arith) in omega arith
rising a (e ∷ es) (suc i) (suc j) r h l = rising e es i j (λ k q. r (suc k) (omega arith)) (omega arith) (omega arith)

-- every join is in a net
pub net_of : (a : ℕ) (es : List ℕ) (k : ℕ) → a ≤ k → k < get_or (a ∷ es) (length es) 0 → (f : ℕ) × (f < length es) × (get_or (a ∷ es) f 0 ≤ k) × (k < get_or es f 0)
net_of a [] k h l = let z : ⊥ = omega arith in elim z [ ]
net_of a (e ∷ es) k h l =
    ⊎_elim
    (λ q. (0, omega arith, h, q))
    (λ q. let r = net_of e es k q l in (suc r.0, omega (arith, r.1), r.2, r.3))
    (cases_lt k e)

module _ (n : ℕ) (ends joins : List ℕ) (rises : Rises ends) (closes : Closes ends joins) (all : AllFine n ends joins (length ends)) where
  pub climbs : Climbs ends joins
  climbs f k h =
      let q = (all f (k + 1) h.0 (omega (arith, h.1)) h.2).above (omega (arith, h.1)) in
      let e : k + 1 - 1 ≡ k = omega arith in
      omega (arith, q, ap (λ j. get_or joins j 0) e)

  pub under : Below joins n
  under k h = let r = net_of 0 ends k (omega arith) (omega (arith, closes)) in (all r.0 k r.1 r.2 r.3).part

pub rises_from_spans : (least : ℕ) (ends : List ℕ) → Spans least ends → Rises ends
rises_from_spans least ends g f h = let q = g f h in omega arith
