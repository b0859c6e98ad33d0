-- What a search promises over any succession of calls.
use Rattle.std.specs.Prelude.{◌≡◌, ℕ, ◌+◌, ◌^◌, ◌≤◌, true, ◌⊎◌, ◌↔◌, List, [], ◌∷◌, ◌++◌, length, take}
use Rattle.circuit.specs.Circuit.{AllBelow}
use Rattle.promise.specs.Order.{In, Ascends, Mark, end, Before}
use Rattle.promise.specs.Search.{Rules, Start, after, opening, Answer, hit, finished, paused, refused, Next}

-- What ties the tries to the hits: a hit is a tuple, m numbers below N; a passing tuple is a hit; and each start with which a hit begins passes.
pub record Lawful (R : Rules) (Hit : List ℕ → Type 0) : Type 0 where
  pub some : 1 ≤ R.m
  pub long : (t : List ℕ) → Hit t → length t ≡ R.m
  pub below : (t : List ℕ) → Hit t → AllBelow R.N t
  pub full : (t : List ℕ) → length t ≡ R.m → AllBelow R.N t → R.passes t ≡ true → Hit t
  pub fronts : (s rest : List ℕ) → 1 ≤ length s → Hit (s ++ rest) → R.passes s ≡ true

-- what a call's answer hands over: the tuple that a Hit wrote
abbrev pub handed : Rules → Answer → List ℕ → List (List ℕ)
handed R (hit n) row' = take R.m row' ∷ []
handed R (finished n) row' = []
handed R (paused n) row' = []
handed R (refused n place) row' = []

-- the tries that an answer carries
abbrev pub tries : Answer → ℕ
tries (hit n) = n
tries (finished n) = n
tries (paused n) = n
tries (refused n place) = 0

-- A succession of calls from the opening on, refused ones counted: it stands at the bookmark k, has handed over h, and its answers' tries add up to t.
pub data Run (R : Rules) : Mark → List (List ℕ) → ℕ → Type 0 where
  opened : Run R (opening R) [] 0
  call : {k : Mark} {h : List (List ℕ)} {t : ℕ} (b : ℕ) (row : List ℕ) (a : Answer) (k' : Mark) (row' : List ℕ)
      → Run R k h t → Next R k b row a k' row' → Run R k' (h ++ handed R a row') (t + tries a)

-- the hand-over h is right at the bookmark k: every hit before it, each once, ascending
pub record Right (Hit : List ℕ → Type 0) (k : Mark) (h : List (List ℕ)) : Type 0 where
  pub ascends : Ascends h
  pub only : (t : List ℕ) → In t h → Hit t × Before t k
  pub every : (t : List ℕ) → Hit t → Before t k → In t h

abbrev pub SaysHit : Answer → Type 0
SaysHit (hit n) = Unit {0}
SaysHit (finished n) = ⊥
SaysHit (paused n) = ⊥
SaysHit (refused n place) = ⊥

abbrev pub SaysFinished : Answer → Type 0
SaysFinished (hit n) = ⊥
SaysFinished (finished n) = Unit {0}
SaysFinished (paused n) = ⊥
SaysFinished (refused n place) = ⊥

abbrev pub Accepted : Answer → Type 0
Accepted (hit n) = Unit {0}
Accepted (finished n) = Unit {0}
Accepted (paused n) = Unit {0}
Accepted (refused n place) = ⊥

-- s is one of the starts that a move of the bookmark from k to k' goes past
pub record Passed (R : Rules) (k k' : Mark) (s : List ℕ) : Type 0 where
  pub start : Start R s
  pub was : Before s k → ⊥
  pub now_is : Before s k'

-- two calls came to the same
pub record Same (a a' : Answer) (k k' : Mark) (row row' : List ℕ) : Type 0 where
  pub answer : a ≡ a'
  pub mark : k ≡ k'
  pub written : row ≡ row'

pub record Promise (R : Rules) (Hit : List ℕ → Type 0) : Type 0 where
  -- no succession of calls leads to a wrong hand-over
  pub right : (k : Mark) (h : List (List ℕ)) (t : ℕ) → Run R k h t → Right Hit k h
  -- in any succession, a refusal is 31 or 32
  pub refuses : (k : Mark) (h : List (List ℕ)) (t : ℕ) → Run R k h t
      → (b : ℕ) (row : List ℕ) (n place : ℕ) (k' : Mark) (row' : List ℕ) → Next R k b row (refused n place) k' row' → (n ≡ 31) ⊎ (n ≡ 32)
  -- an accepted call answers Finished exactly when it leaves the bookmark at the end without a Hit
  pub finishes : (k : Mark) (h : List (List ℕ)) (t : ℕ) → Run R k h t
      → (b : ℕ) (row : List ℕ) (a : Answer) (k' : Mark) (row' : List ℕ) → Next R k b row a k' row' → Accepted a
      → SaysFinished a ↔ ((k' ≡ end) × (SaysHit a → ⊥))
  -- and always when it finds it there
  pub stays : (k : Mark) (h : List (List ℕ)) (t : ℕ) → Run R k h t
      → (b : ℕ) (row : List ℕ) (a : Answer) (k' : Mark) (row' : List ℕ) → Next R k b row a k' row' → Accepted a → k ≡ end → SaysFinished a
  -- by then every tuple that was not handed over is no hit
  pub complete : (k : Mark) (h : List (List ℕ)) (t : ℕ) → Run R k h t
      → (b : ℕ) (row : List ℕ) (n : ℕ) (k' : Mark) (row' : List ℕ) → Next R k b row (finished n) k' row' → (u : List ℕ) → (In u h → ⊥) → Hit u → ⊥
  -- a call that answers Paused on a budget of b has moved the bookmark past at least b starts
  pub moves : (k : Mark) (h : List (List ℕ)) (t : ℕ) → Run R k h t
      → (b : ℕ) (row : List ℕ) (n : ℕ) (k' : Mark) (row' : List ℕ) → Next R k b row (paused n) k' row'
      → (ss : List (List ℕ)) × (length ss ≡ b) × Ascends ss × ((s : List ℕ) → In s ss → Passed R k k' s)
  -- after any calls the bookmark stands where the tries of their answers, added up, lead from the opening
  pub stands : (k : Mark) (h : List (List ℕ)) (t : ℕ) → Run R k h t → k ≡ after R t (opening R)
  -- what a call is given decides all that it answers and leaves
  pub one : (k : Mark) (b : ℕ) (row : List ℕ) (a a' : Answer) (k₁ k₂ : Mark) (row₁ row₂ : List ℕ)
      → Next R k b row a k₁ row₁ → Next R k b row a' k₂ row₂ → Same a a' k₁ k₂ row₁ row₂
  -- enough tries lead to the end
  pub ends : after R ((R.N + 1) ^ R.m) (opening R) ≡ end
