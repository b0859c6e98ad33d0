-- A pattern has at most 1,024 joins: 16 nets of at most 64 parts.
use Rattle.std.proofs.Common.{◌≡◌, ℕ, zero, suc, ◌+◌, ◌-◌, ◌*◌, ◌<◌, ◌≤◌, List, ◌∷◌, length, get_or, ap, arith}
use Rattle.tables.specs.Tables.{start, Spans, Closes, Climbs, Below}
use Rattle.tables.proofs.Checks.{rising, rises_from_spans}

-- a net's joins climb at least as fast as their places, so that a net has at most as many joins as there are parts
module _ (n : ℕ) (ends joins : List ℕ) (spans : Spans 1 ends) (closes : Closes ends joins) (climbs : Climbs ends joins) (under : Below joins n) where
  climb : (f d : ℕ) → f < length ends → start ends f + d < get_or ends f 0 → d ≤ get_or joins (start ends f + d) 0
  climb f zero h l = omega arith
  climb f (suc d) h l =
      let i = climb f d h (omega arith) in
      let c = climbs f (start ends f + d) (h, omega arith, omega arith) in
      let e : get_or joins (start ends f + suc d) 0 ≡ get_or joins (start ends f + d + 1) 0 = ap (λ j. get_or joins j 0) (omega arith) in
      omega (arith, i, c, e)

  gap_few : (f : ℕ) → f < length ends → get_or ends f 0 ≤ start ends f + n
  gap_few f h =
      let g : start ends f + 1 ≤ get_or ends f 0 = spans f h in
      let d = get_or ends f 0 - start ends f - 1 in
      let last : get_or (0 ∷ ends) (suc f) 0 ≤ get_or (0 ∷ ends) (length ends) 0 = rising 0 ends (suc f) (length ends) (rises_from_spans 1 ends spans) (omega arith) (omega arith) in
      let c = climb f d h (omega arith) in
      let u = under (start ends f + d) (omega (arith, last, closes)) in
      omega (arith, c, u, g)

  starts_few : n ≤ 64 → (f : ℕ) → f ≤ length ends → start ends f ≤ 64 * f
  starts_few l zero h = omega arith
  starts_few l (suc f) h =
      let i = starts_few l f (omega arith) in
      let g = gap_few f (omega arith) in
      omega (arith, i, g)

  pub joins_few : n ≤ 64 → length ends ≤ 16 → length joins ≤ 1024
  joins_few l k = let s = starts_few l (length ends) (omega arith) in omega (arith, s, closes)
