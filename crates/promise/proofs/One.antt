-- `Next` pins a call: from the same bookmark, budget and row there is one answer, one bookmark after and one row after.
use Rattle.std.proofs.Common.{◌≡◌, ℕ, zero, suc, ◌<◌, ◌≤◌, ◌⊎◌, List, ◌++◌, length, drop, sym, ap, ◌∙◌, subst, inl, inr, arith}
use Rattle.promise.specs.Order.{Mark, at, end}
use Rattle.promise.specs.Search.{Rules, raise, tried, Found, after, Quiet, Answer, hit, finished, paused, refused, Next, InRange}
use Rattle.promise.specs.Promise.{Same}
use Rattle.promise.proofs.Steps.{quiet_after}

-- where tries stop: at a hit or at the end
abbrev Stop : Rules → Mark → Type 0
Stop R (at s) = Found R s
Stop R end = Unit {0}

module _ (R : Rules) where
  no_more : (n : ℕ) (k e : Mark) → Stop R k → Quiet R n k e → n ≤ 0
  no_more zero k e st q = omega arith
  no_more (suc n) (at s) e st q = absurd (q.0 st)
  no_more (suc n) end e st q = absurd q

  -- no tries go on past a stop
  past : (n n' : ℕ) (k e e' : Mark) → Stop R e → Quiet R n k e → Quiet R n' k e' → n' ≤ n
  past zero n' k e e' st q q' = no_more n' k e' (subst (Stop R) (sym q) st) q'
  past (suc n) zero k e e' st q q' = omega arith
  past (suc n) (suc n') (at s) e e' st q q' = let h = past n n' (tried R (at s)) e e' st q.1 q'.1 in omega arith
  past (suc n) (suc n') end e e' st q q' = absurd q

  both : (n n' : ℕ) (k e e' : Mark) → Stop R e → Stop R e' → Quiet R n k e → Quiet R n' k e' → (n ≡ n') × (e ≡ e')
  both n n' k e e' st st' q q' =
      let a = past n n' k e e' st q q' in
      let b = past n' n k e' e st' q' q in
      let same : n ≡ n' = omega arith in
      (same, quiet_after R n k e q ∙ ap (λ i. after R i k) same ∙ sym (quiet_after R n' k e' q'))

  at_inj : (s s' : List ℕ) → at s ≡ at s' → s ≡ s'
  at_inj s s' e = cc

  at≢end : (s : List ℕ) → at s ≡ end → ⊥
  at≢end s e = let z : ◌≡◌ {A = ℕ} 0 1 = cc in omega arith

  allowed : (b : ℕ) (row : List ℕ) (n : ℕ) → InRange b → R.m ≤ length row
      → ((n ≡ 31) × (InRange b → ⊥)) ⊎ ((n ≡ 32) × InRange b × (length row < R.m)) → ⊥
  allowed b row n i l (inl x) = x.1 i
  allowed b row n i l (inr x) = let y = x.2 in omega arith

  refusal : (b : ℕ) (row : List ℕ) (n n' : ℕ)
      → ((n ≡ 31) × (InRange b → ⊥)) ⊎ ((n ≡ 32) × InRange b × (length row < R.m))
      → ((n' ≡ 31) × (InRange b → ⊥)) ⊎ ((n' ≡ 32) × InRange b × (length row < R.m)) → n ≡ n'
  refusal b row n n' (inl x) (inl y) = x.0 ∙ sym y.0
  refusal b row n n' (inl x) (inr y) = absurd (x.1 y.1)
  refusal b row n n' (inr x) (inl y) = absurd (y.1 x.1)
  refusal b row n n' (inr x) (inr y) = x.0 ∙ sym y.0

  not_end : (n n' : ℕ) (k k' : Mark) → Quiet R n k end → Quiet R n' k k' → n ≤ n' → k' ≡ end
  not_end n n' k k' q q' l =
      let h = past n n' k end k' tt q q' in
      let same : n' ≡ n = omega arith in
      quiet_after R n' k k' q' ∙ ap (λ i. after R i k) same ∙ sym (quiet_after R n k end q)

  pub one : (k : Mark) (b : ℕ) (row : List ℕ) (a a' : Answer) (k₁ k₂ : Mark) (row₁ row₂ : List ℕ)
      → Next R k b row a k₁ row₁ → Next R k b row a' k₂ row₂ → Same a a' k₁ k₂ row₁ row₂
  one k b row (hit n) (hit n') k₁ k₂ row₁ row₂ x y =
      let c = x.2 in
      let d = y.2 in
      let e = both c.0 d.0 k (at c.1) (at d.1) c.5 d.5 c.4 d.4 in
      let s-is : c.1 ≡ d.1 = at_inj c.1 d.1 e.1 in
      record {
        answer = ap hit (c.2 ∙ ap suc e.0 ∙ sym d.2);
        mark = c.6 ∙ ap (raise R.N) s-is ∙ sym d.6;
        written = c.7 ∙ ap (λ s. s ++ drop R.m row) s-is ∙ sym d.7;
      }
  one k b row (hit n) (finished n') k₁ k₂ row₁ row₂ x y =
      absurd (at≢end x.2.1 (both x.2.0 n' k (at x.2.1) end x.2.5 tt x.2.4 y.3).1)
  one k b row (hit n) (paused n') k₁ k₂ row₁ row₂ x y =
      let h = past x.2.0 b k (at x.2.1) k₂ x.2.5 x.2.4 y.3 in
      let l = x.2.3 in
      absurd (omega arith)
  one k b row (hit n) (refused n' p) k₁ k₂ row₁ row₂ x y = absurd (allowed b row n' x.0 x.1 y.0)
  one k b row (finished n) (hit n') k₁ k₂ row₁ row₂ x y =
      absurd (at≢end y.2.1 (both y.2.0 n k (at y.2.1) end y.2.5 tt y.2.4 x.3).1)
  one k b row (finished n) (finished n') k₁ k₂ row₁ row₂ x y =
      record { answer = ap finished (both n n' k end end tt tt x.3 y.3).0; mark = x.4 ∙ sym y.4; written = x.5 ∙ sym y.5 }
  one k b row (finished n) (paused n') k₁ k₂ row₁ row₂ x y = absurd (y.4 (not_end n b k k₂ x.3 y.3 x.2))
  one k b row (finished n) (refused n' p) k₁ k₂ row₁ row₂ x y = absurd (allowed b row n' x.0 x.1 y.0)
  one k b row (paused n) (hit n') k₁ k₂ row₁ row₂ x y =
      let h = past y.2.0 b k (at y.2.1) k₁ y.2.5 y.2.4 x.3 in
      let l = y.2.3 in
      absurd (omega arith)
  one k b row (paused n) (finished n') k₁ k₂ row₁ row₂ x y = absurd (x.4 (not_end n' b k k₁ y.3 x.3 y.2))
  one k b row (paused n) (paused n') k₁ k₂ row₁ row₂ x y =
      record {
        answer = ap paused (x.2 ∙ sym y.2);
        mark = quiet_after R b k k₁ x.3 ∙ sym (quiet_after R b k k₂ y.3);
        written = x.5 ∙ sym y.5;
      }
  one k b row (paused n) (refused n' p) k₁ k₂ row₁ row₂ x y = absurd (allowed b row n' x.0 x.1 y.0)
  one k b row (refused n p) (hit n') k₁ k₂ row₁ row₂ x y = absurd (allowed b row n y.0 y.1 x.0)
  one k b row (refused n p) (finished n') k₁ k₂ row₁ row₂ x y = absurd (allowed b row n y.0 y.1 x.0)
  one k b row (refused n p) (paused n') k₁ k₂ row₁ row₂ x y = absurd (allowed b row n y.0 y.1 x.0)
  one k b row (refused n p) (refused n' p') k₁ k₂ row₁ row₂ x y =
      let e = refusal b row n n' x.0 y.0 in
      let f = x.1 ∙ sym y.1 in
      record { answer = cc; mark = x.2 ∙ sym y.2; written = x.3 ∙ sym y.3 }
