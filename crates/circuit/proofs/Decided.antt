-- The cell rule and a hit, by tests that compute.
use Rattle.std.proofs.Common.{◌≡◌, ℕ, zero, suc, ◌<◌, Bool, true, false, not, ◌&&◌, ◌||◌, eqb, ltb, ◌⊎◌, List, [], ◌∷◌, length, Decides, sym, refl, ◌∙◌, subst₂, inl, inr, ⊎_elim, arith}
use Rattle.std.specs.List.{AllByRecursion}
use Rattle.std.proofs.lemmas.Bool.{eqb-true, eqb-false, false≢true}
use Rattle.std.proofs.lemmas.Bool.Decides.{Decides-eqb, Decides-ltb, Decides-and, Decides-or, Decides-like, Decides-below_and}
use Rattle.std.proofs.ByRecursion.{Decides-by_and}
use Rattle.circuit.specs.Circuit.{Circuit, parts, N, class, member, Sound, AllBelow, Distinct, Hit, mask, upto, in_cell, cells, CellRule, every, level, meets_cell_rule, are_below, are_distinct, is_hit}
use Rattle.circuit.proofs.Counting.{none_or_one}
use Rattle.circuit.proofs.Rule.{cell_tells, cell_rule}

pub decides_every : (test : ℕ → Bool) (P : ℕ → Type 0) → ((k : ℕ) → Decides (test k) (P k)) → (n : ℕ) → Decides (every test n) ((k : ℕ) → k < n → P k)
decides_every test P each n = Decides-below_and test P (every test) each refl (λ _. refl) n

module _ (p : Circuit) (k : ℕ) (b : Circuit) (s : List ℕ) where
  Level : ℕ → ℕ → Type 0
  Level cls msk = (msk ≡ 0) ⊎ (cells p (upto k) cls msk ≡ cells b s cls msk)

  decides_level : (cls msk : ℕ) → Decides (level p k b s cls msk) (Level cls msk)
  unfolding Level
  decides_level cls msk =
      Decides-or (eqb msk 0) (eqb (cells p (upto k) cls msk) (cells b s cls msk)) (Decides-eqb msk 0)
      (Decides-eqb (cells p (upto k) cls msk) (cells b s cls msk))

  Levels : Type 0
  Levels =
      ((u : ℕ) → u < parts p → Level (class p u) (mask p (upto k) u)) × ((v : ℕ) → v < parts b → Level (class b v) (mask b s v))

  decides_levels : Decides (meets_cell_rule p k b s) Levels
  unfolding Levels
  decides_levels =
      Decides-and (every (λ u. level p k b s (class p u) (mask p (upto k) u)) (parts p)) (every (λ v. level p k b s (class b v) (mask b s v)) (parts b))
      (decides_every (λ u. level p k b s (class p u) (mask p (upto k) u)) (λ u. Level (class p u) (mask p (upto k) u)) (λ u. decides_level (class p u) (mask p (upto k) u)) (parts p))
      (decides_every (λ v. level p k b s (class b v) (mask b s v)) (λ v. Level (class b v) (mask b s v)) (λ v. decides_level (class b v) (mask b s v)) (parts b))

  levels_from_rule : CellRule p k b s → Levels
  unfolding Levels Level
  levels_from_rule rule = (λ u l. at (class p u) (mask p (upto k) u), λ v l. at (class b v) (mask b s v))
    where
      at : (cls msk : ℕ) → (msk ≡ 0) ⊎ (cells p (upto k) cls msk ≡ cells b s cls msk)
      at cls zero = inl refl
      at cls (suc m) = inr (rule cls (suc m) (omega arith))

  rule_from_levels : Levels → CellRule p k b s
  unfolding Levels Level
  rule_from_levels h cls msk pos =
      ⊎_elim (λ z. ⊎_elim (λ z'. z ∙ sym z') board (none_or_one (in_cell b s cls msk) (parts b))) pattern (none_or_one (in_cell p (upto k) cls msk) (parts p))
    where
      at : (cls' msk' : ℕ) → (msk' ≡ 0) ⊎ (cells p (upto k) cls' msk' ≡ cells b s cls' msk') → cls' ≡ cls → msk' ≡ msk → cells p (upto k) cls msk ≡ cells b s cls msk
      at cls' msk' h' e d =
          ⊎_elim (λ z. absurd (omega arith)) (λ q. subst₂ (λ (x y : ℕ). cells p (upto k) x y ≡ cells b s x y) e d q) h'

      pattern : (u : ℕ) × (u < parts p) × (in_cell p (upto k) cls msk u ≡ true) → cells p (upto k) cls msk ≡ cells b s cls msk
      pattern (u, l, t) =
          let (e, d) = cell_tells p (upto k) cls msk u t in
          at (class p u) (mask p (upto k) u) (h.0 u l) e d

      board : (v : ℕ) × (v < parts b) × (in_cell b s cls msk v ≡ true) → cells p (upto k) cls msk ≡ cells b s cls msk
      board (v, l, t) =
          let (e, d) = cell_tells b s cls msk v t in
          at (class b v) (mask b s v) (h.1 v l) e d

  pub cell_rule_decided : Decides (meets_cell_rule p k b s) (CellRule p k b s)
  cell_rule_decided = Decides-like (meets_cell_rule p k b s) rule_from_levels levels_from_rule decides_levels

pub below_decided : (n : ℕ) (s : List ℕ) → Decides (are_below n s) (AllBelow n s)
below_decided n s = Decides-by_and (λ x. ltb x n) (λ x. x < n) (are_below n) (λ x. Decides-ltb x n) refl (λ _ _. refl) s

absent : (xs : List ℕ) (x : ℕ) → Decides (not (member xs x)) (AllByRecursion (λ y. x ≡ y → ⊥) xs)
absent [] x = (λ _. tt, λ _. refl)
absent (y ∷ ys) x = go (absent ys x) (eqb y x) refl
  where
    go :
        Decides (not (member ys x)) (AllByRecursion (λ z. x ≡ z → ⊥) ys) → (t : Bool) → eqb y x ≡ t →
        Decides (not (t || member ys x)) ((x ≡ y → ⊥) × AllByRecursion (λ z. x ≡ z → ⊥) ys)
    go below true e = (λ z. absurd (false≢true z), λ (n, a). absurd (n (sym (eqb-true y x e))))
    go below false e = (λ z. (λ q. eqb-false y x e (sym q), below.0 z), λ (n, a). below.1 a)

pub distinct_decided : (s : List ℕ) → Decides (are_distinct s) (Distinct s)
distinct_decided [] = (λ _. tt, λ _. refl)
distinct_decided (x ∷ xs) = Decides-and (not (member xs x)) (are_distinct xs) (absent xs x) (distinct_decided xs)

pub hit_decided : (p b : Circuit) → Sound p → Sound b → (t : List ℕ) → Decides (is_hit p b t) (Hit p b t)
hit_decided p b sp sb t =
    let rule = cell_rule p b sp sb (N p) t in
    let d = meets_cell_rule p (N p) b t in
    Decides-like (is_hit p b t)
    (λ (e, (a, (d, r))). (rule e a d).1 r)
    (λ h. (h.long, (h.below, (h.distinct, (rule h.long h.below h.distinct).0 h))))
    (Decides-and (eqb (length t) (N p)) (are_below (N b) t && (are_distinct t && d)) (Decides-eqb (length t) (N p))
    (Decides-and (are_below (N b) t) (are_distinct t && d) (below_decided (N b) t)
    (Decides-and (are_distinct t) d (distinct_decided t) (cell_rule_decided p (N p) b t))))
