-- How many tries are left at most; every Hit and every Paused makes them fewer.
use Rattle.std.proofs.Common.{◌≡◌, ℕ, zero, suc, ◌+◌, ◌-◌, ◌^◌, ◌<◌, ◌≤◌, List, sym, refl, ◌∙◌, subst, ⊎_elim, arith}
use Rattle.promise.specs.Order.{Mark, at, end}
use Rattle.promise.specs.Search.{Rules, Start, after, opening, Quiet, hit, paused, Next}
use Rattle.promise.specs.Promise.{Run}
use Rattle.promise.proofs.Steps.{Valid}
use Rattle.promise.proofs.Runs.{stands, stands_next}
use Rattle.promise.proofs.Bound.{worth, climbs, value_below, opening_valid}

pub left : Rules → Mark → ℕ
left R k = (R.N + 1) ^ R.m - worth R k

module _ (R : Rules) where
  below_all : (s : List ℕ) → Start R s → worth R (at s) < (R.N + 1) ^ R.m
  unfolding worth
  below_all s v = value_below R.N R.m s v.below v.few

  at_end : worth R end ≡ (R.N + 1) ^ R.m
  unfolding worth
  at_end = refl

  falls : (k k' : Mark) (n : ℕ) → Valid R k → (k ≡ end → ⊥) → 1 ≤ n → k' ≡ after R n k → left R k' < left R k
  unfolding left
  falls end k' n v apart some e = absurd (apart refl)
  falls (at s) k' n v apart some e =
      let top = below_all s v in
      let T : Mark → Type 0 = λ k. (R.N + 1) ^ R.m - worth R k < (R.N + 1) ^ R.m - worth R (at s) in
      ⊎_elim
      (λ q. let z = at_end in let w : (R.N + 1) ^ R.m - worth R end < (R.N + 1) ^ R.m - worth R (at s) = omega arith in subst T (sym (e ∙ q)) w)
      (λ q.
      let up : n + worth R (at s) ≤ worth R (at q.0) = q.3 in
      let under = below_all q.0 q.2 in
      let w : (R.N + 1) ^ R.m - worth R (at q.0) < (R.N + 1) ^ R.m - worth R (at s) = omega arith in
      subst T (sym (e ∙ q.1)) w)
      (climbs R n (at s) v)

  -- where a run stands is a start or the end
  pub run_valid : 1 ≤ R.m → {k : Mark} {h : List (List ℕ)} {t : ℕ} → Run R k h t → Valid R k
  run_valid some {k} {h} {t} r =
      ⊎_elim
      (λ e. subst (Valid R) (sym (stands R r ∙ e)) tt)
      (λ c. subst (Valid R) (sym (stands R r ∙ c.1)) c.2)
      (climbs R t (opening R) (opening_valid R some))

  -- a quiet way to a start, or of at least one try, begins before the end
  starts : (j : ℕ) (k : Mark) (s : List ℕ) → Quiet R j k (at s) → k ≡ end → ⊥
  starts zero k s q e = let z : ◌≡◌ {A = ℕ} 0 1 = cc in omega arith
  starts (suc j) (at u) s q e = let z : ◌≡◌ {A = ℕ} 0 1 = cc in omega arith
  starts (suc j) end s q e = q

  moves_on : (b : ℕ) (k k' : Mark) → 1 ≤ b → Quiet R b k k' → k ≡ end → ⊥
  moves_on zero k k' l q e = omega arith
  moves_on (suc b) (at u) k' l q e = let z : ◌≡◌ {A = ℕ} 0 1 = cc in omega arith
  moves_on (suc b) end k' l q e = q

  pub hit_falls : 1 ≤ R.m → {k : Mark} {h : List (List ℕ)} {t : ℕ} → Run R k h t → (b : ℕ) (row : List ℕ) (n : ℕ) (k' : Mark) (row' : List ℕ)
      → Next R k b row (hit n) k' row' → left R k' < left R k
  hit_falls some {k} r b row n k' row' x =
      let c = x.2 in
      falls k k' n (run_valid some r) (starts c.0 k c.1 c.4) (omega (arith, c.2)) (stands_next R k b row (hit n) k' row' x)

  pub paused_falls : 1 ≤ R.m → {k : Mark} {h : List (List ℕ)} {t : ℕ} → Run R k h t → (b : ℕ) (row : List ℕ) (n : ℕ) (k' : Mark) (row' : List ℕ)
      → Next R k b row (paused n) k' row' → left R k' < left R k
  paused_falls some {k} r b row n k' row' x =
      falls k k' n (run_valid some r) (moves_on b k k' x.0.0 x.3) (omega (arith, x.2, x.0.0)) (stands_next R k b row (paused n) k' row' x)
