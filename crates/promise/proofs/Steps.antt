-- One try, and tries one after another: the bookmark stays a start, moves forward, and no hit is skipped.
use Rattle.std.proofs.Common.{◌≡◌, ℕ, zero, suc, ◌<◌, ◌≤◌, true, false, ltb, ◌⊎◌, List, [], ◌∷◌, ◌++◌, length, sym, refl, ap, ◌∙◌, subst, inl, inr, arith}
use Rattle.std.proofs.lemmas.Bool.{cond_both, ltb-true, ltb-false, both_ways}
use Rattle.std.proofs.lemmas.List.{append-nil, length-append, length_push, nil_from_length}
use Rattle.circuit.specs.Circuit.{AllBelow}
use Rattle.promise.specs.Order.{◌≺◌, In, Ascends, Mark, at, end, Before}
use Rattle.promise.specs.Search.{Rules, Start, raise, tried, Found, after, Quiet}
use Rattle.promise.specs.Promise.{Lawful, Passed}
use Rattle.promise.proofs.Order.{≺_irrefl, ≺_total, before_trans, Front, push_past, push_next, raise_only, raise_past, raise_fine, Fine, all_below_push}

-- the bookmark is a start or the end
abbrev pub Valid : Rules → Mark → Type 0
Valid R (at s) = Start R s
Valid R end = Unit {0}

valid_fine : (R : Rules) (n : ℕ) (k : Mark) → n ≤ R.m → Fine R.N n k → Valid R k
valid_fine R n (at u) h f = record { some = f.0; few = omega arith; below = f.2 }
valid_fine R n end h f = tt

pub some_net : (N : ℕ) (s : List ℕ) → 1 ≤ length s → AllBelow N s → 0 < N
some_net N [] h b = absurd (omega arith)
some_net N (x ∷ xs) h b = omega arith

-- What holds of s with 0 added, if s passes and is short, and of s raised otherwise, holds of where the try leads
pub by_try : (R : Rules) (s : List ℕ) (P : Mark → Type 0)
    → (R.passes s ≡ true → length s < R.m → P (at (s ++ 0 ∷ [])))
    → (R.passes s ≡ true → R.m ≤ length s → P (raise R.N s))
    → (R.passes s ≡ false → P (raise R.N s))
    → P (tried R (at s))
by_try R s P short full fails =
    cond_both (R.passes s) _ _ P
    (λ e. cond_both (ltb (length s) R.m) _ _ P (λ l. short e (ltb-true _ _ l)) (λ l. full e (ltb-false _ _ l)))
    fails

pub tried_valid : (R : Rules) (s : List ℕ) → Start R s → Valid R (tried R (at s))
tried_valid R s v =
    by_try R s (Valid R)
    (λ e l. record { some = rw length_push (omega arith); few = rw length_push (omega arith); below = all_below_push R.N s 0 v.below (some_net R.N s v.some v.below) })
    (λ e l. up)
    (λ e. up)
  where
    up : Valid R (raise R.N s)
    up = valid_fine R (length s) (raise R.N s) v.few (raise_fine R.N s v.below)

pub raise_self : (N : ℕ) (s : List ℕ) → Before s (raise N s)
raise_self N s = subst (λ u. Before u (raise N s)) (append-nil s) (raise_past N s [])

-- a try moves the bookmark past the start that it looks at
pub tried_past : (R : Rules) (s : List ℕ) → Before s (tried R (at s))
tried_past R s = by_try R s (Before s) (λ e l. push_past s 0) (λ e l. raise_self R.N s) (λ e. raise_self R.N s)

pub tried_keeps : (R : Rules) (k : Mark) (t : List ℕ) → Before t k → Before t (tried R k)
tried_keeps R (at s) t p = before_trans t s (tried R (at s)) p (tried_past R s)
tried_keeps R end t p = tt

pub found_tried : (R : Rules) (s : List ℕ) → Found R s → tried R (at s) ≡ raise R.N s
found_tried R s f =
    by_try R s (λ k. k ≡ raise R.N s) (λ e l. let z = f.1 in absurd (omega arith)) (λ e l. refl) (λ e. refl)

module _ (R : Rules) (Hit : List ℕ → Type 0) (L : Lawful R Hit) where
  -- a start that fails is the front of no hit
  fails_no_front : (s t : List ℕ) → 1 ≤ length s → R.passes s ≡ false → Hit t → Front s t → ⊥
  fails_no_front s t n e h f = both_ways (R.passes s) e (L.fronts s f.0 n (subst Hit f.1 h))

  full_front : (s t : List ℕ) → length s ≡ R.m → Hit t → Front s t → t ≡ s
  full_front s t n h f =
      let rest = f.0 in
      let e : t ≡ s ++ rest = f.1 in
      let m = L.long t h in
      let z : length rest ≡ 0 = omega (arith, ap length e, length-append s rest) in
      e ∙ ap (λ r. s ++ r) (nil_from_length rest z) ∙ append-nil s

  -- a try that is no hit goes past no hit
  pub tried_skips_none : (s : List ℕ) → Start R s → (Found R s → ⊥) → (t : List ℕ) → Hit t → Before t (tried R (at s)) → t ≺ s
  tried_skips_none s v none t h =
      by_try R s (λ k. Before t k → t ≺ s)
      (λ e l p. short l (push_next s t p))
      (λ e l p. let few = v.few in absurd (none (e, omega arith)))
      (λ e p. fails e (raise_only R.N s t (L.below t h) p))
    where
      short : length s < R.m → (t ≺ s) ⊎ (t ≡ s) → t ≺ s
      short l (inl p) = p
      short l (inr e) = let m = L.long t h in absurd (omega (arith, ap length e))

      fails : R.passes s ≡ false → (t ≺ s) ⊎ Front s t → t ≺ s
      fails e (inl p) = p
      fails e (inr f) = absurd (fails_no_front s t v.some e h f)

  -- and one that is a hit goes past that alone
  pub found_skips_none : (s : List ℕ) → Found R s → (t : List ℕ) → Hit t → Before t (raise R.N s) → (t ≺ s) ⊎ (t ≡ s)
  found_skips_none s f t h p = go (raise_only R.N s t (L.below t h) p)
    where
      go : (t ≺ s) ⊎ Front s t → (t ≺ s) ⊎ (t ≡ s)
      go (inl q) = inl q
      go (inr q) = inr (full_front s t f.1 h q)

  pub quiet_skips_none : (n : ℕ) (k k' : Mark) → Valid R k → Quiet R n k k' → (t : List ℕ) → Hit t → Before t k' → Before t k
  quiet_skips_none zero k k' v q t h p = subst (Before t) (sym q) p
  quiet_skips_none (suc n) (at s) k' v q t h p =
      tried_skips_none s v q.0 t h (quiet_skips_none n (tried R (at s)) k' (tried_valid R s v) q.1 t h p)
  quiet_skips_none (suc n) end k' v q t h p = tt

module _ (R : Rules) where
  pub quiet_valid : (n : ℕ) (k k' : Mark) → Valid R k → Quiet R n k k' → Valid R k'
  quiet_valid zero k k' v q = subst (Valid R) q v
  quiet_valid (suc n) (at s) k' v q = quiet_valid n (tried R (at s)) k' (tried_valid R s v) q.1
  quiet_valid (suc n) end k' v q = absurd q

  pub quiet_keeps : (n : ℕ) (k k' : Mark) → Quiet R n k k' → (t : List ℕ) → Before t k → Before t k'
  quiet_keeps zero k k' q t p = subst (Before t) q p
  quiet_keeps (suc n) (at s) k' q t p = quiet_keeps n (tried R (at s)) k' q.1 t (tried_keeps R (at s) t p)
  quiet_keeps (suc n) end k' q t p = absurd q

  pub quiet_after : (n : ℕ) (k k' : Mark) → Quiet R n k k' → k' ≡ after R n k
  quiet_after zero k k' q = sym q
  quiet_after (suc n) (at s) k' q = quiet_after n (tried R (at s)) k' q.1
  quiet_after (suc n) end k' q = absurd q

  -- one more try without a hit
  pub quiet_more : (n : ℕ) (k : Mark) (s : List ℕ) → Quiet R n k (at s) → (Found R s → ⊥) → Quiet R (suc n) k (tried R (at s))
  quiet_more zero k s q f = subst (λ x. Quiet R 1 x (tried R (at s))) (sym q) (f, refl)
  quiet_more (suc n) (at u) s q f = (q.0, quiet_more n (tried R (at u)) s q.1 f)
  quiet_more (suc n) end s q f = absurd q

  -- the starts that quiet tries look at, one for each try
  after_past : (s u : List ℕ) (k : Mark) → Before s k → (Before u k → ⊥) → s ≺ u
  after_past s u k p n = go (≺_total s u)
    where
      go : (s ≺ u) ⊎ ((s ≡ u) ⊎ (u ≺ s)) → s ≺ u
      go (inl q) = q
      go (inr (inl e)) = absurd (n (subst (λ x. Before x k) e p))
      go (inr (inr q)) = absurd (n (before_trans u s k q p))

  abbrev pub Looked : ℕ → Mark → Mark → Type 0
  Looked n k k' = (ss : List (List ℕ)) × (length ss ≡ n) × Ascends ss × ((s : List ℕ) → In s ss → Passed R k k' s)

  pub quiet_looks : (n : ℕ) (k k' : Mark) → Valid R k → Quiet R n k k' → Looked n k k'
  quiet_looks zero k k' v q = ([], refl, tt, λ s i. absurd i)
  quiet_looks (suc n) (at s) k' v q = add (quiet_looks n (tried R (at s)) k' (tried_valid R s v) q.1)
    where
      add : Looked n (tried R (at s)) k' → Looked (suc n) (at s) k'
      add c = (s ∷ c.0, ap suc c.1, (λ u i. after_past s u (tried R (at s)) (tried_past R s) (c.3 u i).was, c.2), each)
        where
          each : (u : List ℕ) → In u (s ∷ c.0) → Passed R (at s) k' u
          each u (inl e) =
              subst (Passed R (at s) k') (sym e)
              (record { start = v; was = ≺_irrefl s; now_is = quiet_keeps n (tried R (at s)) k' q.1 s (tried_past R s) })
          each u (inr i) =
              let p = c.3 u i in
              record { start = p.start; was = λ b. p.was (tried_keeps R (at s) u b); now_is = p.now_is }
  quiet_looks (suc n) end k' v q = absurd q
