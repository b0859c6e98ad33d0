-- The counts sieve drops no start with which a hit begins.
use Rattle.std.proofs.Common.{◌≡◌, ℕ, ◌<◌, ◌≤◌, Bool, true, false, ◌&&◌, eqb, ltb, leb, List, [], ◌++◌, length, get_or, Decides, sym, refl, ap, ◌∙◌, subst, ⊎_elim, arith}
use Rattle.std.proofs.lemmas.List.{length-append, get_or_append_left}
use Rattle.std.proofs.lemmas.Bool.{eqb-true, and_parts, and_from, cond_both, cond-true, ltb-true, lt-ltb}
use Rattle.std.proofs.lemmas.Bool.Decides.{Decides-eqb, Decides-and, Decides-like}
use Rattle.circuit.specs.Circuit.{Circuit, N, parts, class, on, Sound, Hit, count, every}
use Rattle.circuit.proofs.Counting.{none_or_one}
use Rattle.circuit.proofs.Decided.{decides_every}
use Rattle.circuit.proofs.Nets.{counts_kept}
use Rattle.promise.specs.Hits.{Fit}
use Rattle.sieves.specs.Counts.{classed, SameCounts, level_class, have_same_counts, place, last, looked_up, counts_keep}

module _ (p : Circuit) (i : ℕ) (b : Circuit) (f : ℕ) where
  Levels : Type 0
  Levels =
      ((u : ℕ) → u < parts p → count (classed p i (class p u)) (parts p) ≡ count (classed b f (class p u)) (parts b))
      × ((v : ℕ) → v < parts b → count (classed p i (class b v)) (parts p) ≡ count (classed b f (class b v)) (parts b))

  one : (cls : ℕ) → Decides (level_class p i b f cls) (count (classed p i cls) (parts p) ≡ count (classed b f cls) (parts b))
  one cls = Decides-eqb (count (classed p i cls) (parts p)) (count (classed b f cls) (parts b))

  levels_decided : Decides (have_same_counts p i b f) Levels
  unfolding Levels
  levels_decided =
      Decides-and (every (λ u. level_class p i b f (class p u)) (parts p)) (every (λ v. level_class p i b f (class b v)) (parts b))
      (decides_every (λ u. level_class p i b f (class p u)) (λ u. count (classed p i (class p u)) (parts p) ≡ count (classed b f (class p u)) (parts b)) (λ u. one (class p u)) (parts p))
      (decides_every (λ v. level_class p i b f (class b v)) (λ v. count (classed p i (class b v)) (parts p) ≡ count (classed b f (class b v)) (parts b)) (λ v. one (class b v)) (parts b))

  all_from_levels : Levels → SameCounts p i b f
  unfolding Levels
  all_from_levels h cls = ⊎_elim (λ z. ⊎_elim (λ z'. z ∙ sym z') board (none_or_one (classed b f cls) (parts b))) pattern (none_or_one (classed p i cls) (parts p))
    where
      pattern : (u : ℕ) × (u < parts p) × (classed p i cls u ≡ true) → count (classed p i cls) (parts p) ≡ count (classed b f cls) (parts b)
      pattern (u, l, t) =
          subst (λ (x : ℕ). count (classed p i x) (parts p) ≡ count (classed b f x) (parts b))
          (eqb-true (class p u) cls (and_parts (on p u i) (eqb (class p u) cls) t).1) (h.0 u l)

      board : (v : ℕ) × (v < parts b) × (classed b f cls v ≡ true) → count (classed p i cls) (parts p) ≡ count (classed b f cls) (parts b)
      board (v, l, t) =
          subst (λ (x : ℕ). count (classed p i x) (parts p) ≡ count (classed b f x) (parts b))
          (eqb-true (class b v) cls (and_parts (on b v f) (eqb (class b v) cls) t).1) (h.1 v l)

  pub counts_decided : Decides (have_same_counts p i b f) (SameCounts p i b f)
  unfolding Levels
  counts_decided = Decides-like (have_same_counts p i b f) all_from_levels (λ h. (λ u _. h (class p u), λ v _. h (class b v))) levels_decided

-- what the table must say
abbrev pub Filled : Circuit → Circuit → List (List Bool) → Type 0
Filled p b fits = (i f : ℕ) → i < 16 → f < 4096 → get_or (get_or fits i []) f false ≡ have_same_counts p i b f

-- a start with which a hit begins passes the counts test at its last net
begins : (p b : Circuit) → Sound p → Sound b → (s rest : List ℕ) → 1 ≤ length s → Hit p b (s ++ rest) → SameCounts p (place s) b (last s)
begins p b sp sb s rest some h cls =
    let l : place s < N p = omega (arith, h.long, length-append s rest) in
    counts_kept p b sp sb (N p) (s ++ rest) h.part_map h.maps (place s) l cls
    ∙ ap (λ (g : ℕ). count (classed b g cls) (parts b)) (get_or_append_left s rest 0 (place s) (omega arith))

pub counts_fit : (p b : Circuit) → Sound p → Sound b → Fit (counts_keep p b) p b
counts_fit p b sp sb s rest some h =
    cond_both (ltb 0 (length s) && leb (length s) (N p)) _ _ (λ (t : Bool). t ≡ true)
    (λ _. (counts_decided p (place s) b (last s)).1 (begins p b sp sb s rest some h)) (λ _. refl)

pub filled_fit : (p b : Circuit) → Sound p → Sound b → (fits : List (List Bool)) → Filled p b fits → Fit (looked_up fits) p b
filled_fit p b sp sb fits filled s rest some h =
    cond_both (ltb 0 (length s) && (ltb (length s) 17 && ltb (last s) 4096)) _ _ (λ (t : Bool). t ≡ true) inside (λ _. refl)
  where
    inside : (ltb 0 (length s) && (ltb (length s) 17 && ltb (last s) 4096)) ≡ true → get_or (get_or fits (place s) []) (last s) false ≡ true
    inside e =
        let (_, r) = and_parts (ltb 0 (length s)) (ltb (length s) 17 && ltb (last s) 4096) e in
        let (few, low) = and_parts (ltb (length s) 17) (ltb (last s) 4096) r in
        let a : length s < 17 = ltb-true (length s) 17 few in
        filled (place s) (last s) (omega arith) (ltb-true (last s) 4096 low) ∙ (counts_decided p (place s) b (last s)).1 (begins p b sp sb s rest some h)

-- a start that the table has an entry for
pub looked_inside : (fits : List (List Bool)) (s : List ℕ) → 0 < length s → length s < 17 → last s < 4096 → get_or (get_or fits (place s) []) (last s) false ≡ looked_up fits s
looked_inside fits s some few low =
    sym (cond-true (ltb 0 (length s) && (ltb (length s) 17 && ltb (last s) 4096)) _ _
    (and_from (ltb 0 (length s)) (ltb (length s) 17 && ltb (last s) 4096) (lt-ltb 0 (length s) some)
    (and_from (ltb (length s) 17) (ltb (last s) 4096) (lt-ltb (length s) 17 few) (lt-ltb (last s) 4096 low))))

-- a filled table means what the sieve means
pub filled_means : (p b : Circuit) (fits : List (List Bool)) → Filled p b fits → (s : List ℕ) → 1 ≤ length s → length s ≤ 16 → last s < 4096
    → Decides (looked_up fits s) (SameCounts p (place s) b (last s))
filled_means p b fits filled s some few low =
    let e : looked_up fits s ≡ have_same_counts p (place s) b (last s) = sym (looked_inside fits s some (omega arith) low) ∙ filled (place s) (last s) (omega arith) low in
    let (one, other) = counts_decided p (place s) b (last s) in
    ((λ t. one (sym e ∙ t)), (λ h. e ∙ other h))
