-- Which starts pass when the hits of a pattern on a board are sought, and what a search for them promises.
use Rattle.std.specs.Prelude.{◌≡◌, ℕ, ◌<◌, ◌≤◌, Bool, true, ◌&&◌, ◌↔◌, List, ◌++◌, length}
use Rattle.circuit.specs.Circuit.{Circuit, N, parts, class, Hit, HitBy, meets_cell_rule, are_distinct}
use Rattle.promise.specs.Order.{Mark}
use Rattle.promise.specs.Search.{Rules, Answer, Next}
use Rattle.promise.specs.Promise.{Promise, Right, Run, handed}

-- a start passes when its nets differ, the sieve keeps it and the cell rule holds
abbrev pub passing : Circuit → Circuit → (List ℕ → Bool) → List ℕ → Bool
passing p b keeps s = are_distinct s && (keeps s && meets_cell_rule p (length s) b s)

abbrev pub rules_of : Circuit → Circuit → (List ℕ → Bool) → Rules
rules_of p b keeps = record { m = N p; N = N b; passes = passing p b keeps }

-- the sieve keeps every start with which some hit begins
abbrev pub Fit : (List ℕ → Bool) → Circuit → Circuit → Type 0
Fit keeps p b = (s rest : List ℕ) → 1 ≤ length s → Hit p b (s ++ rest) → keeps s ≡ true

-- parts of the pattern and of the board are of the same class exactly when they are alike
abbrev pub Agree : (ℕ → ℕ → Bool) → Circuit → Circuit → Type 0
Agree alike p b = (u v : ℕ) → u < parts p → v < parts b → (class p u ≡ class b v) ↔ (alike u v ≡ true)

-- a hit, where the part map sends each part to one that is alike
abbrev pub AlikeHit : (ℕ → ℕ → Bool) → Circuit → Circuit → List ℕ → Type 0
AlikeHit alike p b t = HitBy (λ u v. alike u v ≡ true) p (N p) b t

-- What a search promises of the hits, by classes and by any likeness that the classes stand for.
pub record Promised (p b : Circuit) (keeps : List ℕ → Bool) : Type 0 where
  pub by_class : Promise (rules_of p b keeps) (Hit p b)
  pub by_likeness : (alike : ℕ → ℕ → Bool) → Agree alike p b → Promise (rules_of p b keeps) (AlikeHit alike p b)

-- One call of next, with a sieve that may be fit: what it answers; and, if it is fit, what that comes to in any succession of calls.
pub record Called (p b : Circuit) (keeps : List ℕ → Bool) (k : Mark) (budget : ℕ) (row : List ℕ) (a : Answer) (k' : Mark) (row' : List ℕ) : Type 0 where
  pub answers : Next (rules_of p b keeps) k budget row a k' row'
  pub promise : Fit keeps p b → Promised p b keeps
  pub lands : Fit keeps p b → (h : List (List ℕ)) (t : ℕ) → Run (rules_of p b keeps) k h t → Right (Hit p b) k' (h ++ handed (rules_of p b keeps) a row')
