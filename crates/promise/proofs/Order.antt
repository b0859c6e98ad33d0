-- The order of starts: it is an order, and what raising and adding a 0 do in it.
use Rattle.std.proofs.Common.{◌≡◌, ℕ, suc, ◌+◌, ◌<◌, ◌≤◌, Bool, true, false, cond, ltb, ◌⊎◌, List, [], ◌∷◌, ◌++◌, length, sym, refl, ap, ◌∙◌, inl, inr, arith}
use Rattle.std.proofs.lemmas.Bool.{cond_both, ltb-true, ltb-false, cases_order, cases_lt}
use Rattle.circuit.specs.Circuit.{AllBelow}
use Rattle.promise.specs.Order.{◌≺◌, Mark, at, end, Before}
use Rattle.promise.specs.Search.{raised, raise}

pub ≺_nil : (s : List ℕ) → s ≺ [] → ⊥
≺_nil [] p = p
≺_nil (x ∷ xs) p = p

pub ≺_irrefl : (s : List ℕ) → s ≺ s → ⊥
≺_irrefl [] p = p
≺_irrefl (x ∷ xs) (inl h) = omega arith
≺_irrefl (x ∷ xs) (inr e) = ≺_irrefl xs e.1

pub ≺_trans : (s t u : List ℕ) → s ≺ t → t ≺ u → s ≺ u
≺_trans [] [] u p q = absurd p
≺_trans [] (y ∷ ys) [] p q = absurd q
≺_trans [] (y ∷ ys) (z ∷ zs) p q = tt
≺_trans (x ∷ xs) [] u p q = absurd p
≺_trans (x ∷ xs) (y ∷ ys) [] p q = absurd q
≺_trans (x ∷ xs) (y ∷ ys) (z ∷ zs) (inl a) (inl b) = inl (omega arith)
≺_trans (x ∷ xs) (y ∷ ys) (z ∷ zs) (inl a) (inr b) = inl (omega arith)
≺_trans (x ∷ xs) (y ∷ ys) (z ∷ zs) (inr a) (inl b) = inl (omega arith)
≺_trans (x ∷ xs) (y ∷ ys) (z ∷ zs) (inr a) (inr b) = inr (a.0 ∙ b.0, ≺_trans xs ys zs a.1 b.1)

pub ≺_total : (s t : List ℕ) → (s ≺ t) ⊎ ((s ≡ t) ⊎ (t ≺ s))
≺_total [] [] = inr (inl refl)
≺_total [] (y ∷ ys) = inl tt
≺_total (x ∷ xs) [] = inr (inr tt)
≺_total (x ∷ xs) (y ∷ ys) = go (cases_order x y) (≺_total xs ys)
  where
    go : (x ≡ y) ⊎ ((x < y) ⊎ (y < x)) → (xs ≺ ys) ⊎ ((xs ≡ ys) ⊎ (ys ≺ xs))
        → ((x ∷ xs) ≺ (y ∷ ys)) ⊎ (((x ∷ xs) ≡ (y ∷ ys)) ⊎ ((y ∷ ys) ≺ (x ∷ xs)))
    go (inl e) (inl p) = inl (inr (e, p))
    go (inl e) (inr (inl q)) = inr (inl (cc))
    go (inl e) (inr (inr p)) = inr (inr (inr (sym e, p)))
    go (inr (inl l)) r = inl (inl l)
    go (inr (inr g)) r = inr (inr (inl g))

-- the order and a bookmark
pub before_trans : (s t : List ℕ) (k : Mark) → s ≺ t → Before t k → Before s k
before_trans s t (at u) p q = ≺_trans s t u p q
before_trans s t end p q = tt

-- t begins with s
abbrev pub Front : List ℕ → List ℕ → Type 0
Front s t = (rest : List ℕ) × (t ≡ s ++ rest)

front_cons : (x y : ℕ) (xs ys : List ℕ) → y ≡ x → Front xs ys → Front (x ∷ xs) (y ∷ ys)
front_cons x y xs ys e f = let q = f.1 in (f.0, cc)

-- a start comes before itself with 0 added, and nothing comes between
pub push_past : (s : List ℕ) (x : ℕ) → s ≺ (s ++ x ∷ [])
push_past [] x = tt
push_past (y ∷ ys) x = inr (refl, push_past ys x)

pub push_next : (s t : List ℕ) → t ≺ (s ++ 0 ∷ []) → (t ≺ s) ⊎ (t ≡ s)
push_next [] [] p = inr refl
push_next [] (y ∷ ys) (inl h) = absurd (omega arith)
push_next [] (y ∷ ys) (inr e) = absurd (≺_nil ys e.1)
push_next (x ∷ xs) [] p = inl tt
push_next (x ∷ xs) (y ∷ ys) (inl h) = inl (inl h)
push_next (x ∷ xs) (y ∷ ys) (inr e) = go (push_next xs ys e.1)
  where
    go : (ys ≺ xs) ⊎ (ys ≡ xs) → ((y ∷ ys) ≺ (x ∷ xs)) ⊎ ((y ∷ ys) ≡ (x ∷ xs))
    go (inl p) = inl (inr (e.0, p))
    go (inr q) = let z = e.0 in inr (cc)

-- what comes before a raised start came before the start, or begins with it
abbrev Split : List ℕ → List ℕ → Type 0
Split s t = (t ≺ s) ⊎ Front s t

split_cons : (x y : ℕ) (xs ys : List ℕ) → y ≡ x → Split xs ys → Split (x ∷ xs) (y ∷ ys)
split_cons x y xs ys e (inl p) = inl (inr (e, p))
split_cons x y xs ys e (inr f) = inr (front_cons x y xs ys e f)

split_upto : (x y : ℕ) (xs ys : List ℕ) → y ≤ x → Split xs ys → Split (x ∷ xs) (y ∷ ys)
split_upto x y xs ys h c = go (cases_lt y x)
  where
    go : (y < x) ⊎ (x ≤ y) → Split (x ∷ xs) (y ∷ ys)
    go (inl l) = inl (inl l)
    go (inr g) = split_cons x y xs ys (omega arith) c

raised_only : (N x : ℕ) (xs : List ℕ) (q : Mark) → ((t : List ℕ) → AllBelow N t → Before t q → Split xs t)
    → (t : List ℕ) → AllBelow N t → Before t (raised N x q) → Split (x ∷ xs) t
raised_only N x xs q ih [] b p = inl tt
raised_only N x xs (at zs) ih (y ∷ ys) b (inl h) = inl (inl h)
raised_only N x xs (at zs) ih (y ∷ ys) b (inr e) = split_cons x y xs ys e.0 (ih ys b.1 e.1)
raised_only N x xs end ih (y ∷ ys) b p =
    cond_both (ltb (x + 1) N) (at ((x + 1) ∷ [])) end (λ k. Before (y ∷ ys) k → Split (x ∷ xs) (y ∷ ys))
    (λ e. less)
    (λ e u. let g : N ≤ x + 1 = ltb-false (x + 1) N e in let l : y < N = b.0 in split_upto x y xs ys (omega arith) (ih ys b.1 tt))
    p
  where
    less : (y ∷ ys) ≺ ((x + 1) ∷ []) → Split (x ∷ xs) (y ∷ ys)
    less (inl h) = split_upto x y xs ys (omega arith) (ih ys b.1 tt)
    less (inr e) = absurd (≺_nil ys e.1)

pub raise_only : (N : ℕ) (s t : List ℕ) → AllBelow N t → Before t (raise N s) → (t ≺ s) ⊎ Front s t
raise_only N [] t b p = inr (t, refl)
raise_only N (x ∷ xs) t b p = raised_only N x xs (raise N xs) (raise_only N xs) t b p

-- the other way round: what came before the start, and what begins with it, is before the raised start
raised_past : (N x : ℕ) (xs : List ℕ) (q : Mark) → ((rest : List ℕ) → Before (xs ++ rest) q) → (rest : List ℕ) → Before (x ∷ (xs ++ rest)) (raised N x q)
raised_past N x xs (at zs) ih rest = inr (refl, ih rest)
raised_past N x xs end ih rest =
    cond_both (ltb (x + 1) N) (at ((x + 1) ∷ [])) end (λ k. Before (x ∷ (xs ++ rest)) k) (λ e. inl (omega arith)) (λ e. tt)

pub raise_past : (N : ℕ) (s rest : List ℕ) → Before (s ++ rest) (raise N s)
raise_past N [] rest = tt
raise_past N (x ∷ xs) rest = raised_past N x xs (raise N xs) (raise_past N xs) rest

-- a raised start is the end, or a start no longer than it was
abbrev pub Fine : ℕ → ℕ → Mark → Type 0
Fine N n (at u) = (1 ≤ length u) × (length u ≤ n) × AllBelow N u
Fine N n end = Unit {0}

raised_fine : (N x n : ℕ) (q : Mark) → x < N → Fine N n q → Fine N (suc n) (raised N x q)
raised_fine N x n (at ys) l f = (omega arith, omega arith, (l, f.2))
raised_fine N x n end l f =
    cond_both (ltb (x + 1) N) (at ((x + 1) ∷ [])) end (λ k. Fine N (suc n) k) (λ e. (omega arith, omega arith, (ltb-true (x + 1) N e, tt))) (λ e. tt)

pub raise_fine : (N : ℕ) (s : List ℕ) → AllBelow N s → Fine N (length s) (raise N s)
raise_fine N [] b = tt
raise_fine N (x ∷ xs) b = raised_fine N x (length xs) (raise N xs) b.0 (raise_fine N xs b.1)

-- raising, as a loop from the last number on does it
pub raise_last : (N : ℕ) (xs : List ℕ) (x : ℕ) → raise N (xs ++ x ∷ []) ≡ cond (ltb (x + 1) N) (at (xs ++ (x + 1) ∷ [])) (raise N xs)
raise_last N [] x = refl
raise_last N (y ∷ ys) x = ap (raised N y) (raise_last N ys x) ∙ go (ltb (x + 1) N)
  where
    go : (c : Bool) → raised N y (cond c (at (ys ++ (x + 1) ∷ [])) (raise N ys)) ≡ cond c (at (y ∷ (ys ++ (x + 1) ∷ []))) (raised N y (raise N ys))
    go true = refl
    go false = refl

pub all_below_push : (N : ℕ) (s : List ℕ) (x : ℕ) → AllBelow N s → x < N → AllBelow N (s ++ x ∷ [])
all_below_push N [] x b l = (l, tt)
all_below_push N (y ∷ ys) x b l = (b.0, all_below_push N ys x b.1 l)
