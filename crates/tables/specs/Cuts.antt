-- What the nets of three tables are.
use Rattle.std.specs.Prelude.{◌≡◌, ℕ, zero, suc, ◌+◌, ◌-◌, ◌<◌, ◌≤◌, List, [], ◌∷◌, length, get_or, take, drop, ◌≢◌, slice_index, slice_index_or, refl}
use Rattle.std.proofs.Common.{ap, ◌∙◌, ⊎_elim, arith, length-take, length-drop}
use Rattle.std.proofs.lemmas.List.{get_or_past, get_or-take, get_or-drop}
use Rattle.std.proofs.lemmas.Bool.{cases_lt}
use Rattle.std.proofs.ByRecursion.{All-from_get_or, All-weaker}
use Rattle.circuit.specs.Circuit as C
use Rattle.circuit.specs.Circuit.{Circuit, Sound, AllBelow, net}
use Rattle.tables.specs.Tables.{cuts, circuit_of, start, Rises, Closes, Climbs, Below}

pub cuts_length : (a : ℕ) (es js : List ℕ) → length (cuts a es js) ≡ length es
cuts_length a [] js = refl
cuts_length a (e ∷ es) js = ap suc (cuts_length e es js)

pub cuts_at : (a : ℕ) (es js : List ℕ) (f : ℕ) → f < length es → slice_index_or (cuts a es js) f [] ≡ take (slice_index es f - slice_index (a ∷ es) f) (drop (slice_index (a ∷ es) f) js)
cuts_at a [] js f h = let z : ⊥ = omega arith in elim z [ ]
cuts_at a (e ∷ es) js zero h = refl
cuts_at a (e ∷ es) js (suc f) h = cuts_at e es js f (omega arith)

pub cuts_past : (a : ℕ) (es js : List ℕ) (f : ℕ) → length es ≤ f → slice_index_or (cuts a es js) f [] ≡ []
cuts_past a es js f h = get_or_past (cuts a es js) f [] (omega (arith, cuts_length a es js))

-- each end is at most the last
pub to_last : (a : ℕ) (es : List ℕ) (f : ℕ) → ((i : ℕ) → i < length es → slice_index (a ∷ es) i ≤ slice_index es i) → f ≤ length es → slice_index (a ∷ es) f ≤ slice_index (a ∷ es) (length es)
to_last a [] zero r h = omega arith
to_last a [] (suc f) r h = let z : ⊥ = omega arith in elim z [ ]
to_last a (e ∷ es) zero r h = let k = to_last e es 0 (λ i l. r (suc i) (omega arith)) (omega arith) in let q : a ≤ e = r 0 (omega arith) in omega arith
to_last a (e ∷ es) (suc f) r h = to_last e es f (λ i l. r (suc i) (omega arith)) (omega arith)

pub start_at : (ends : List ℕ) (f : ℕ) → (f ≢ 0) → slice_index ends (f - 1) ≡ start ends f
start_at ends zero h = let z : ⊥ = h refl in elim z [ ]
start_at ends (suc f) h = ap (λ n. slice_index ends n) (omega arith)

-- a net's end is within the joins
pub end_within : (ends joins : List ℕ) (f : ℕ) → Rises ends → Closes ends joins → f < length ends → slice_index ends f ≤ length joins
end_within ends joins f r l h = let k : get_or (0 ∷ ends) (suc f) 0 ≤ get_or (0 ∷ ends) (length ends) 0 = to_last 0 ends (suc f) r (omega arith) in omega (arith, k, l)

-- each below the next: each below all later
from_next : (xs : List ℕ) → ((k : ℕ) → k + 1 < length xs → slice_index xs k < slice_index xs (k + 1)) → C.Ascends xs
from_next [] h = tt
from_next (x ∷ []) h = (tt, tt)
from_next (x ∷ y ∷ ys) h =
    let rest : C.Ascends (y ∷ ys) = from_next (y ∷ ys) (λ k l. let j : suc k + 1 ≡ suc (k + 1) = omega arith in let e : get_or (x ∷ y ∷ ys) (suc k + 1) 0 ≡ get_or (y ∷ ys) (k + 1) 0 = ap (λ (i : ℕ). slice_index (x ∷ y ∷ ys) i) j in let q : get_or (y ∷ ys) k 0 < get_or (x ∷ y ∷ ys) (suc k + 1) 0 = h (suc k) (omega arith) in omega arith) in
    let first : x < y = h 0 (omega arith) in
    ((first, All-weaker (λ z. y < z) (λ z. x < z) (λ z l. omega arith) ys rest.0), rest)

module _ (classes ends joins : List ℕ) (rises : Rises ends) (closes : Closes ends joins) (climbs : Climbs ends joins) (under : Below joins (length classes)) where
  pub net_length : (f : ℕ) → f < length ends → length (slice_index_or (cuts 0 ends joins) f []) ≡ slice_index ends f - start ends f
  net_length f h =
      let e = cuts_at 0 ends joins f h in
      let w = end_within ends joins f rises closes h in
      let r = rises f h in
      ap length e ∙ simp (length-take, length-drop) (omega arith)

  pub net_read : (f k : ℕ) → f < length ends → k < length (slice_index_or (cuts 0 ends joins) f []) → slice_index (slice_index_or (cuts 0 ends joins) f []) k ≡ slice_index joins (start ends f + k)
  net_read f k h l =
      let n : k < slice_index ends f - start ends f = omega (arith, net_length f h) in
      ap (λ xs. slice_index xs k) (cuts_at 0 ends joins f h) ∙ get_or-take (slice_index ends f - start ends f) (drop (start ends f) joins) k 0 n ∙ get_or-drop (start ends f) joins k 0

  on_board : (f k : ℕ) → k < length (slice_index_or (cuts 0 ends joins) f []) → f < length ends
  on_board f k l = ⊎_elim (λ h. h) (λ h. let z : ⊥ = omega (arith, ap length (cuts_past 0 ends joins f h)) in elim z [ ]) (cases_lt f (length ends))

  pub sound : Sound (circuit_of classes ends joins)
  sound = All-from_get_or (λ xs. C.Ascends xs × AllBelow (length classes) xs) (cuts 0 ends joins) [] λ f _. (ascends f, within f)
    where
      ascends : (f : ℕ) → C.Ascends (slice_index_or (cuts 0 ends joins) f [])
      ascends f = from_next (slice_index_or (cuts 0 ends joins) f []) λ k l.
          let h = on_board f (k + 1) l in
          let n = net_length f h in
          let a = net_read f k h (omega arith) in
          let b = net_read f (k + 1) h l in
          let c : get_or joins (start ends f + k) 0 < get_or joins (start ends f + k + 1) 0 = climbs f (start ends f + k) (h, omega arith, omega arith) in
          let s : get_or joins (start ends f + (k + 1)) 0 ≡ get_or joins (start ends f + k + 1) 0 = ap (λ j. slice_index joins j) (omega arith) in
          omega (arith, a, b, c, s)

      within : (f : ℕ) → AllBelow (length classes) (slice_index_or (cuts 0 ends joins) f [])
      within f = All-from_get_or (λ x. x < length classes) (slice_index_or (cuts 0 ends joins) f []) 0 λ k l.
          let h = on_board f k l in
          let n = net_length f h in
          let w = end_within ends joins f rises closes h in
          let a = net_read f k h l in
          let u = under (start ends f + k) (omega arith) in
          omega (arith, a, u)

-- a net has at most as many parts as there are joins
pub net_small : (ends joins : List ℕ) (f : ℕ) → length (slice_index_or (cuts 0 ends joins) f []) ≤ length joins
net_small ends joins f =
    ⊎_elim
    (λ h. let e = ap length (cuts_at 0 ends joins f h) in let t = length-take (slice_index ends f - start ends f) (drop (start ends f) joins) in let d = length-drop (start ends f) joins in omega (arith, e, t, d))
    (λ h. omega (arith, ap length (cuts_past 0 ends joins f h)))
    (cases_lt f (length ends))
