-- The cells of the parts on a start's nets, counted by key, are the cells of all parts.
use Rattle.std.proofs.Common.{◌≡◌, ℕ, zero, suc, ◌+◌, ◌*◌, ◌%◌, ◌^◌, ◌<◌, ◌≤◌, Bool, true, false, cond, not, ◌&&◌, eqb, List, [], ◌∷◌, length, get_or, count_by, Ordering, Less, Equal, Greater, sym, refl, ap, ◌∙◌, ⊎_elim, one-add, arith}
use Rattle.std.specs.Ordering.{is_eq, ordering_then, nat_cmp}
use Rattle.std.specs.Cmp.{unsigned_tied}
use Rattle.std.proofs.lemmas.List.Sums.{sum_by-cons}
use Rattle.std.proofs.lemmas.Nat.{mod-pow-add, mod_low, pow_pos}
use Rattle.std.proofs.lemmas.Bool.{cases_Bool, eq-eqb, ne_eqb, and_left, and_right}
use Rattle.circuit.specs.Circuit.{Circuit, parts, net, on, Sound, bit, mask, count, in_cell, cells as cell_count}
use Rattle.circuit.proofs.Counting.{count_same}
use Rattle.circuit.proofs.Masks.{mask_bit, mask_below, net_ascends, net_below}
use Rattle.circuit.proofs.Rule.{cell_tells}
use Rattle.circuit.proofs.Nets.{net_count}
use Rattle.matching.specs.declared.cell.Cell.{Cell}
use Rattle.tally.specs.Tallies.{by}
use Rattle.tally.specs.Levels.{times}
use Rattle.matching.specs.Orders.{by_cell}
use Rattle.tally.proofs.Counts.{times_append}
use Rattle.matching.specs.Keys.{cell_of, fresh, picked, keys}

count_none : (P : ℕ → Bool) (n : ℕ) → ((v : ℕ) → P v ≡ false) → count P n ≡ 0
count_none P zero h = refl
count_none P (suc n) h = let i = count_none P n h in let e : bit (P n) ≡ 0 = ap bit (h n) in omega arith

count_sum : (P Q R : ℕ → Bool) (n : ℕ) → ((v : ℕ) → bit (P v) ≡ bit (Q v) + bit (R v)) → count P n ≡ count Q n + count R n
count_sum P Q R zero h = refl
count_sum P Q R (suc n) h = let i = count_sum P Q R n h in let e = h n in omega arith

-- the order tells equal cells
tied_both : (q r : Ordering) → by (ordering_then q r) 0 1 0 ≡ bit (is_eq q && is_eq r)
tied_both Less r = refl
tied_both Equal Less = refl
tied_both Equal Equal = refl
tied_both Equal Greater = refl
tied_both Greater r = refl

pub tie : (x : Cell) (cls msk : ℕ) → by (by_cell x (record { class = cls; mask = msk })) 0 1 0 ≡ bit (eqb x.class cls && eqb x.mask msk)
tie x cls msk =
    tied_both (nat_cmp x.class cls) (nat_cmp x.mask msk)
    ∙ ap (λ (t : Bool). bit (t && is_eq (nat_cmp x.mask msk))) (unsigned_tied x.class cls)
    ∙ ap (λ (t : Bool). bit (eqb x.class cls && t)) (unsigned_tied x.mask msk)

bit_cond : (t : Bool) → bit t ≡ cond t 1 0
bit_cond true = refl
bit_cond false = refl

module _ (c : Circuit) (s : List ℕ) where
  -- one net more
  fresh_more : (i v : ℕ) → i < length s → fresh c s (suc i) v ≡ (fresh c s i v && not (on c v (get_or s i 0)))
  fresh_more i v h = ap (λ (x : ℕ). eqb x 0) split ∙ go (on c v (get_or s i 0))
    where
      split : mask c s v % 2 ^ suc i ≡ bit (on c v (get_or s i 0)) * 2 ^ i + mask c s v % 2 ^ i
      split =
          ap (λ (n : ℕ). mask c s v % 2 ^ n) (sym (one-add i))
          ∙ mod-pow-add (mask c s v) 1 i
          ∙ ap (λ (b : ℕ). b * 2 ^ i + mask c s v % 2 ^ i) (mask_bit c v s i h)

      go : (t : Bool) → eqb (bit t * 2 ^ i + mask c s v % 2 ^ i) 0 ≡ (eqb (mask c s v % 2 ^ i) 0 && not t)
      go true =
          let p = pow_pos i in
          ne_eqb (1 * 2 ^ i + mask c s v % 2 ^ i) 0 (λ e. omega arith) ∙ sym (and_right (eqb (mask c s v % 2 ^ i) 0) false refl)
      go false = let z : 0 * 2 ^ i + mask c s v % 2 ^ i ≡ mask c s v % 2 ^ i = omega arith in ap (λ (x : ℕ). eqb x 0) z ∙ sym (and_true (eqb (mask c s v % 2 ^ i) 0))
        where
          and_true : (t : Bool) → (t && true) ≡ t
          and_true true = refl
          and_true false = refl

  module _ (cls msk : ℕ) where
    -- counted at one of the first i nets
    abbrev low : ℕ → ℕ → Bool
    low i v = not (fresh c s i v) && in_cell c s cls msk v

    abbrev here : ℕ → ℕ → Bool
    here i v = fresh c s i v && in_cell c s cls msk v

    times_picked : (i : ℕ) (xs : List ℕ) → times by_cell (picked c s i xs) (record { class = cls; mask = msk }) ≡ count_by (here i) xs
    times_picked i [] = refl
    times_picked i (x ∷ xs) = go (fresh c s i x) refl (times_picked i xs)
      where
        folded : bit (here i x) + count_by (here i) xs ≡ count_by (here i) (x ∷ xs)
        folded = sym (sum_by-cons (λ y. cond (here i y) 1 0) x xs ∙ ap (λ (m : ℕ). m + count_by (here i) xs) (sym (bit_cond (here i x))))

        go :
            (t : Bool) → fresh c s i x ≡ t → times by_cell (picked c s i xs) (record { class = cls; mask = msk }) ≡ count_by (here i) xs →
            times by_cell (cond t (cell_of c s x ∷ picked c s i xs) (picked c s i xs)) (record { class = cls; mask = msk }) ≡ count_by (here i) (x ∷ xs)
        go true e rest =
            let a = tie (cell_of c s x) cls msk in
            let b : bit (here i x) ≡ bit (in_cell c s cls msk x) = ap (λ (t : Bool). bit (t && in_cell c s cls msk x)) e in
            omega (arith, a, b, rest, folded)
        go false e rest =
            let b : bit (here i x) ≡ 0 = ap (λ (t : Bool). bit (t && in_cell c s cls msk x)) e in
            omega (arith, b, rest, folded)

    split : (i v : ℕ) → i < length s → bit (low (suc i) v) ≡ bit (low i v) + bit (on c v (get_or s i 0) && here i v)
    split i v h = ap (λ (t : Bool). bit (not t && in_cell c s cls msk v)) (fresh_more i v h) ∙ go (fresh c s i v) (on c v (get_or s i 0)) (in_cell c s cls msk v)
      where
        go : (f o a : Bool) → bit (not (f && not o) && a) ≡ bit (not f && a) + bit (o && (f && a))
        go true true true = refl
        go true true false = refl
        go true false true = refl
        go true false false = refl
        go false true true = refl
        go false true false = refl
        go false false true = refl
        go false false false = refl

    times_keys : Sound c → (i : ℕ) → i ≤ length s → times by_cell (keys c s i) (record { class = cls; mask = msk }) ≡ count (low i) (parts c)
    times_keys sound zero h = sym (count_none (low 0) (parts c) λ v. and_left (not (fresh c s 0 v)) (in_cell c s cls msk v) (ap not (eq-eqb (mask c s v % 1) 0 (omega arith))))
    times_keys sound (suc i) h =
        let f = get_or s i 0 in
        let a = times_append by_cell (keys c s i) (picked c s i (net c f)) (record { class = cls; mask = msk }) in
        let b = times_keys sound i (omega arith) in
        let d = times_picked i (net c f) in
        let e = net_count (here i) (parts c) (net c f) (net_ascends c sound f) (net_below c sound f) in
        let q = count_sum (low (suc i)) (low i) (λ v. on c v f && here i v) (parts c) (λ v. split i v (omega arith)) in
        omega (arith, a, b, d, e, q)

    whole : (v : ℕ) → mask c s v % 2 ^ length s ≡ mask c s v
    whole v =
        let z : mask c s v ≡ 0 * 2 ^ length s + mask c s v = omega arith in
        ap (λ (x : ℕ). x % 2 ^ length s) z ∙ mod_low 0 (length s) (mask c s v) (mask_below c v s)

    all_of : (v : ℕ) → 0 < msk → low (length s) v ≡ in_cell c s cls msk v
    all_of v pos = ⊎_elim yes' (λ n. and_right (not (fresh c s (length s) v)) (in_cell c s cls msk v) n ∙ sym n) (cases_Bool (in_cell c s cls msk v))
      where
        yes' : in_cell c s cls msk v ≡ true → low (length s) v ≡ in_cell c s cls msk v
        yes' t =
            let (_, d) = cell_tells c s cls msk v t in
            let n : fresh c s (length s) v ≡ false = ne_eqb (mask c s v % 2 ^ length s) 0 (λ e. omega (arith, whole v, d, e)) in
            ap (λ (b : Bool). not b && in_cell c s cls msk v) n

    none_of : (v : ℕ) → msk ≡ 0 → low (length s) v ≡ false
    none_of v z = ⊎_elim yes' (λ n. and_right (not (fresh c s (length s) v)) (in_cell c s cls msk v) n) (cases_Bool (in_cell c s cls msk v))
      where
        yes' : in_cell c s cls msk v ≡ true → low (length s) v ≡ false
        yes' t =
            let (_, d) = cell_tells c s cls msk v t in
            let y : fresh c s (length s) v ≡ true = eq-eqb (mask c s v % 2 ^ length s) 0 (whole v ∙ d ∙ z) in
            and_left (not (fresh c s (length s) v)) (in_cell c s cls msk v) (ap not y)

    pub times_cells : Sound c → 0 < msk → times by_cell (keys c s (length s)) (record { class = cls; mask = msk }) ≡ cell_count c s cls msk
    times_cells sound pos = times_keys sound (length s) (omega arith) ∙ count_same (low (length s)) (in_cell c s cls msk) (parts c) (λ v _. all_of v pos)

    pub times_zero : Sound c → msk ≡ 0 → times by_cell (keys c s (length s)) (record { class = cls; mask = msk }) ≡ 0
    times_zero sound z = times_keys sound (length s) (omega arith) ∙ count_none (low (length s)) (parts c) (λ v. none_of v z)
