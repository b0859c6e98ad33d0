-- What a list writes.
use Rattle.std.specs.Prelude.{◌≡◌, ℕ, List, [], ◌∷◌, ◌++◌, map, take, Option, Some, codes}
use Rattle.circuit.specs.Circuit.{Circuit, Hit}
use Rattle.promise.specs.Order.{Mark, end}
use Rattle.promise.specs.Search.{Rules, Answer, hit, finished, paused, Next}
use Rattle.promise.specs.Promise.{Right}
use Rattle.lines.specs.Written.{hit_line, end_line, paused_line}
use Rattle.lines.specs.declared.Ending.{Ending}
use Rattle.lines.specs.declared.Ending.TheVariants.{End, Paused as Stopped}
use Rattle.listing.specs.declared.output.Halt.{Halt}
use Rattle.listing.specs.declared.output.Halt.TheVariants.{Memory, Output}
use Rattle.listing.specs.declared.step.Step.{Step}
use Rattle.listing.specs.declared.step.Step.TheVariants.{Found, Done, Rested}
use Rattle.listing.specs.declared.step.Outcome.{Outcome}
use Rattle.listing.specs.declared.step.Outcome.TheVariants.{Ended, Paused, Faulty}

-- how a list ends whose search ended so
abbrev pub outcome_of : Ending → Outcome
outcome_of End = Ended
outcome_of Stopped = Paused

-- what is said of a list that was broken off, where what an error of the sink says is known
abbrev pub halt_text : {E : Type 0} → (E → Option (List ℕ)) → Halt E → Option (List ℕ)
halt_text text Memory = Some (codes "out of memory")
halt_text text (Output e) = text e

-- one call of next with a budget of 1,000,000 and some row: the answer a, and the bookmark k' and the row' that it leaves
pub record Asked (R : Rules) (k : Mark) (a : Answer) (k' : Mark) (row' : List ℕ) : Type 0 where
  pub row : List ℕ
  pub next : Next R k 1_000_000 row a k' row'

module _ {S : Type 0} (writes : S → List ℕ → S → Type 0) where
  -- lines written one after another take a sink from a to b
  abbrev pub Writes : S → List (List ℕ) → S → Type 0
  Writes a [] b = a ≡ b
  Writes a (l ∷ ls) b = (c : S) × writes a l c × Writes c ls b

  -- one such call from the bookmark k to k': a hit is written, as a line of its net numbers
  abbrev pub Stepped : Rules → Mark → S → Step → Mark → S → Type 0
  Stepped R k a Found k' b = (n : ℕ) × (row : List ℕ) × Asked R k (hit n) k' row × writes a (hit_line (take R.m row)) b
  Stepped R k a Done k' b = (n : ℕ) × (row : List ℕ) × Asked R k (finished n) k' row × (a ≡ b)
  Stepped R k a Rested k' b = (n : ℕ) × (row : List ℕ) × Asked R k (paused n) k' row × (a ≡ b)

  -- The hits' lines, ascending, and how the search ended: all hits and `end`; or those before some bookmark and `paused`.
  abbrev pub HitsListed : Circuit → Circuit → S → Outcome → S → Type 0
  HitsListed p b a Ended a' = (h : List (List ℕ)) × Right (Hit p b) end h × Writes a (map hit_line h ++ end_line ∷ []) a'
  HitsListed p b a Paused a' = (k : Mark) × (h : List (List ℕ)) × Right (Hit p b) k h × Writes a (map hit_line h ++ paused_line ∷ []) a'
  HitsListed p b a Faulty a' = ⊥
