-- Cells added part by part, and net by net.
use Rattle.std.proofs.Common.{◌≡◌, ℕ, zero, suc, ◌+◌, ◌-◌, ◌*◌, ◌%◌, ◌^◌, ◌<◌, ◌≤◌, Bool, true, false, cond, List, [], ◌∷◌, ◌++◌, length, get_or, take, Ok, sym, refl, ap, ◌∙◌, ⊎_elim, append_assoc, append-nil, arith}
use lib.Bits.{bit_and}
use Rattle.std.proofs.lemmas.List.{take_more, take_all, length-append, length-take-le}
use Rattle.std.proofs.lemmas.Nat.{one_shl, and_mask}
use Rattle.std.proofs.lemmas.Bool.{eq-eqb, ne_eqb}
use Rattle.circuit.specs.Circuit.{Circuit, net, mask}
use Rattle.circuit.proofs.Counting.{last_or}
use Rattle.matching.specs.declared.cell.Cell.{Cell}
use Rattle.tally.specs.declared.entry.Entry.{Entry}
use Rattle.tally.specs.Tallies.{tallied, answer}
use Rattle.matching.specs.Orders.{by_cell}
use Rattle.tally.proofs.Counts.{roomy, answer_room}
use Rattle.matching.specs.Keys.{cell_of, fresh, picked, keys, sizes}

module _ (c : Circuit) (s : List ℕ) where
  picked_append : (i : ℕ) (xs ys : List ℕ) → picked c s i (xs ++ ys) ≡ picked c s i xs ++ picked c s i ys
  picked_append i [] ys = refl
  picked_append i (x ∷ xs) ys = go (fresh c s i x) (picked_append i xs ys)
    where
      go :
          (t : Bool) → picked c s i (xs ++ ys) ≡ picked c s i xs ++ picked c s i ys →
          cond t (cell_of c s x ∷ picked c s i (xs ++ ys)) (picked c s i (xs ++ ys)) ≡ cond t (cell_of c s x ∷ picked c s i xs) (picked c s i xs) ++ picked c s i ys
      go true e = ap (λ (zs : List Cell). cell_of c s x ∷ zs) e
      go false e = e

  picked_few : (i : ℕ) (xs : List ℕ) → length (picked c s i xs) ≤ length xs
  picked_few i [] = omega arith
  picked_few i (x ∷ xs) = go (fresh c s i x) (picked_few i xs)
    where
      go : (t : Bool) → length (picked c s i xs) ≤ length xs → length (cond t (cell_of c s x ∷ picked c s i xs) (picked c s i xs)) ≤ suc (length xs)
      go true e = omega arith
      go false e = omega arith

  keys_few : (i : ℕ) → length (keys c s i) ≤ sizes c s i
  keys_few zero = omega arith
  keys_few (suc i) =
      let a = keys_few i in
      let b = picked_few i (net c (get_or s i 0)) in
      let d = length-append (keys c s i) (picked c s i (net c (get_or s i 0))) in
      omega arith

  pub sizes_up : (i n : ℕ) → i ≤ n → sizes c s i ≤ sizes c s n
  sizes_up i zero h = let e : i ≡ zero = omega arith in rw e (omega arith)
  sizes_up i (suc n) h = ⊎_elim (λ e. rw e (omega arith)) (λ l. let k : sizes c s i ≤ sizes c s n = sizes_up i n (omega arith) in omega arith) (last_or i (suc n) (omega arith))

  -- what came before the k-th part of net i
  abbrev pub so_far : ℕ → ℕ → List Cell
  so_far i k = keys c s i ++ picked c s i (take k (net c (get_or s i 0)))

  module _ (i k : ℕ) (h : k < length (net c (get_or s i 0))) where
    xs : List ℕ
    xs = net c (get_or s i 0)

    v : ℕ
    v = get_or (net c (get_or s i 0)) k 0

    more : picked c s i (take (k + 1) (net c (get_or s i 0))) ≡ picked c s i (take k (net c (get_or s i 0))) ++ cond (fresh c s i (get_or (net c (get_or s i 0)) k 0)) (cell_of c s (get_or (net c (get_or s i 0)) k 0) ∷ []) []
    more = ap (picked c s i) (take_more (net c (get_or s i 0)) k 0 h) ∙ picked_append i (take k (net c (get_or s i 0))) (get_or (net c (get_or s i 0)) k 0 ∷ [])

    pub far_more :
        fresh c s i (get_or (net c (get_or s i 0)) k 0) ≡ true →
        so_far i (k + 1) ≡ so_far i k ++ cell_of c s (get_or (net c (get_or s i 0)) k 0) ∷ []
    far_more t =
        ap (λ (zs : List Cell). keys c s i ++ zs) (more ∙ ap (λ (b : Bool). picked c s i (take k (net c (get_or s i 0))) ++ cond b (cell_of c s (get_or (net c (get_or s i 0)) k 0) ∷ []) []) t)
        ∙ sym (append_assoc (keys c s i) (picked c s i (take k (net c (get_or s i 0)))) (cell_of c s (get_or (net c (get_or s i 0)) k 0) ∷ []))

    pub far_same : fresh c s i (get_or (net c (get_or s i 0)) k 0) ≡ false → so_far i (k + 1) ≡ so_far i k
    far_same t =
        ap (λ (zs : List Cell). keys c s i ++ zs)
        (more
        ∙ ap (λ (b : Bool). picked c s i (take k (net c (get_or s i 0))) ++ cond b (cell_of c s (get_or (net c (get_or s i 0)) k 0) ∷ []) []) t
        ∙ append-nil (picked c s i (take k (net c (get_or s i 0)))))

    pub far_room :
        (room : ℕ) (es : List (Entry Cell)) (cell : Cell) → es ≡ tallied by_cell (so_far i k) →
        sizes c s (suc i) ≤ room → sizes c s (suc i) < 65535 → answer by_cell es cell room ≡ Ok tt
    far_room room es cell e fits low =
        let a = keys_few i in
        let b = picked_few i (take k (net c (get_or s i 0))) in
        let d = length-take-le k (net c (get_or s i 0)) (omega arith) in
        let n = length-append (keys c s i) (picked c s i (take k (net c (get_or s i 0)))) in
        ap (λ (z : List (Entry Cell)). answer by_cell z cell room) e
        ∙ answer_room by_cell (length (so_far i k)) room (tallied by_cell (so_far i k)) cell (roomy by_cell (so_far i k)) (omega arith) (omega arith)

  pub far_all : (i k : ℕ) → length (net c (get_or s i 0)) ≤ k → so_far i k ≡ keys c s (suc i)
  far_all i k h = ap (λ (zs : List ℕ). keys c s i ++ picked c s i zs) (take_all k (net c (get_or s i 0)) h)

-- the test of the bits below i
pub low_bits : (m i : ℕ) → i < 16 → bit_and m ((1 * 2 ^ i) % 65536 - 1) ≡ m % 2 ^ i
low_bits m i l = ap (λ (n : ℕ). bit_and m (n - 1)) (one_shl i 16 l) ∙ and_mask m i

module _ (c : Circuit) (s : List ℕ) (i mk v w : ℕ) (m : mk ≡ mask c s v) (e : v ≡ w) where
  pub fresh_yes : i < 16 → bit_and mk ((1 * 2 ^ i) % 65536 - 1) ≡ 0 → fresh c s i w ≡ true
  fresh_yes l z = eq-eqb (mask c s w % 2 ^ i) 0 (ap (λ (x : ℕ). x % 2 ^ i) (ap (mask c s) (sym e) ∙ sym m) ∙ sym (low_bits mk i l) ∙ z)

  pub fresh_no : i < 16 → (bit_and mk ((1 * 2 ^ i) % 65536 - 1) ≡ 0 → ⊥) → fresh c s i w ≡ false
  fresh_no l z = ne_eqb (mask c s w % 2 ^ i) 0 (λ d. z (low_bits mk i l ∙ ap (λ (x : ℕ). x % 2 ^ i) (m ∙ ap (mask c s) e) ∙ d))
