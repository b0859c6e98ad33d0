-- One try, tries one after another, and one call of next.
use Rattle.std.specs.Prelude.{◌≡◌, ℕ, zero, suc, ◌+◌, ◌<◌, ◌≤◌, Bool, true, cond, ◌⊎◌, List, [], ◌∷◌, ◌++◌, length, drop, ◌≢◌, nat_lt}
use Rattle.circuit.specs.Circuit.{AllBelow}
use Rattle.promise.specs.Order.{Mark, at, end}

-- what a search goes by: m, the number of pattern nets; N, the number of board nets; and which starts pass
pub record Rules : Type 0 where
  pub m : ℕ
  pub N : ℕ
  pub passes : List ℕ → Bool

-- a start: 1 to m board net numbers
pub record Start (R : Rules) (s : List ℕ) : Type 0 where
  pub some : 1 ≤ length s
  pub few : length s ≤ R.m
  pub below : AllBelow R.N s

-- The last number is raised by one; one that reaches N is removed and the one before it raised; with none left, the end.
-- Below, x stands before what the mark says of the numbers after it: where those are used up, x is raised itself.
abbrev pub raised : ℕ → ℕ → Mark → Mark
raised N x (at ys) = at (x ∷ ys)
raised N x end = cond (nat_lt (x + 1) N) (at ((x + 1) ∷ [])) end

abbrev pub raise : ℕ → List ℕ → Mark
raise N [] = end
raise N (x ∷ xs) = raised N x (raise N xs)

-- where one try leads
abbrev pub tried : Rules → Mark → Mark
tried R (at s) = cond (R.passes s) (cond (nat_lt (length s) R.m) (at (s ++ 0 ∷ [])) (raise R.N s)) (raise R.N s)
tried R end = end

-- the try at s is a hit
abbrev pub Found : Rules → List ℕ → Type 0
Found R s = (R.passes s ≡ true) × (length s ≡ R.m)

-- where t tries lead
abbrev pub after : Rules → ℕ → Mark → Mark
after R zero k = k
after R (suc t) k = after R t (tried R k)

-- the bookmark of a search that was just opened
abbrev pub opening : Rules → Mark
opening R = cond (nat_lt 0 R.N) (at (0 ∷ [])) end

-- t tries lead from k to k', none of them a hit and none made at the end
abbrev pub Quiet : Rules → ℕ → Mark → Mark → Type 0
Quiet R zero k k' = k ≡ k'
Quiet R (suc t) (at s) k' = (Found R s → ⊥) × Quiet R t (tried R (at s)) k'
Quiet R (suc t) end k' = ⊥

-- what a call of next answers: each with its tries, or a refusal with its number and place
pub data Answer : Type 0 where
  hit : ℕ → Answer
  finished : ℕ → Answer
  paused : ℕ → Answer
  refused : ℕ → ℕ → Answer

abbrev pub InRange : ℕ → Type 0
InRange b = (1 ≤ b) × (b ≤ 1_000_000)

-- one call of next: the bookmark k, the budget b and the row, then the answer, and the bookmark k' and the row' that it leaves
abbrev pub Next : Rules → Mark → ℕ → List ℕ → Answer → Mark → List ℕ → Type 0
Next R k b row (hit n) k' row' =
    InRange b × (R.m ≤ length row)
    × ((j : ℕ) × (s : List ℕ) × (n ≡ suc j) × (j < b) × Quiet R j k (at s) × Found R s × (k' ≡ raise R.N s) × (row' ≡ s ++ drop R.m row))
Next R k b row (finished n) k' row' =
    InRange b × (R.m ≤ length row) × (n ≤ b) × Quiet R n k end × (k' ≡ end) × (row' ≡ row)
Next R k b row (paused n) k' row' =
    InRange b × (R.m ≤ length row) × (n ≡ b) × Quiet R b k k' × (k' ≢ end) × (row' ≡ row)
Next R k b row (refused n place) k' row' =
    (((n ≡ 31) × (InRange b → ⊥)) ⊎ ((n ≡ 32) × InRange b × (length row < R.m))) × (place ≡ 0) × (k' ≡ k) × (row' ≡ row)
