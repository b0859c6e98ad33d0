-- What a whole succession of calls comes to.
use Rattle.std.specs.Prelude.{◌≡◌, ℕ, ◌+◌, Bool, List, [], ◌∷◌, ◌++◌, take, drop}
use Rattle.circuit.specs.Circuit.{Circuit, Hit}
use Rattle.promise.specs.Order.{Mark}
use Rattle.promise.specs.Search.{Rules, opening, Next}
use Rattle.promise.specs.Promise.{Promise, Right, Run, handed, tries}
use Rattle.promise.specs.Hits.{rules_of, AlikeHit, Promised}
use Rattle.labels.specs.Alike.{Wrote, alike_at}
use Rattle.search.specs.Held.{said}
use Rattle.runs.specs.declared.call.Call.{Call}

-- the tuples that Hit answers wrote, in the order of the calls
abbrev pub hand_over : Rules → List Call → List (List ℕ)
hand_over R [] = []
hand_over R (c ∷ cs) = handed R (said c.answer) c.row ++ hand_over R cs

-- the tries of all answers, added up
abbrev pub all_tries : List Call → ℕ
all_tries [] = 0
all_tries (c ∷ cs) = tries (said c.answer) + all_tries cs

-- each call in turn, given as in cs and left as in cs', does what a call of next does, and takes the bookmark from k to k''
abbrev pub Through : Rules → Mark → List Call → List Call → Mark → Type 0
Through R k [] [] k'' = k ≡ k''
Through R k [] (c' ∷ cs') k'' = ⊥
Through R k (c ∷ cs) [] k'' = ⊥
Through R k (c ∷ cs) (c' ∷ cs') k'' =
    (k' : Mark) × (c'.budget ≡ c.budget) × Next R k c.budget c.row (said c'.answer) k' c'.row × Through R k' cs cs' k''

-- What is promised in the words of labels, where one labelling call wrote all classes: the part maps send each part to one whose label is alike.
pub record ByLabels {L : Type 0} (same : L → L → Bool) (ps bs : List L) (p b : Circuit) (keeps : List ℕ → Bool) (cs' : List Call) (k : Mark) : Type 0 where
  pub any : Promise (rules_of p b keeps) (AlikeHit (alike_at same ps bs) p b)
  pub right : Right (AlikeHit (alike_at same ps bs) p b) k (hand_over (rules_of p b keeps) cs')

-- The whole promise of the calls cs, left as cs' with the bookmark at k: their hand-over is every hit before the bookmark, each once and ascending;
-- and what is promised of any succession of calls whatever.
pub record Whole {L : Type 0} (proper : L → Bool) (same : L → L → Bool) (ps bs : List L) (p b : Circuit) (keeps : List ℕ → Bool) (cs cs' : List Call) (k : Mark) : Type 0 where
  pub through : Through (rules_of p b keeps) (opening (rules_of p b keeps)) cs cs' k
  -- after the first j calls, whatever j, the bookmark stood where a run of the search leads, and the other calls went on from there
  pub runs : (j : ℕ) → (k' : Mark)
      × Run (rules_of p b keeps) k' (hand_over (rules_of p b keeps) (take j cs')) (all_tries (take j cs'))
      × Through (rules_of p b keeps) k' (drop j cs) (drop j cs') k
  pub right : Right (Hit p b) k (hand_over (rules_of p b keeps) cs')
  pub any : Promised p b keeps
  pub by_labels : Wrote proper same ps bs p.classes b.classes → ByLabels same ps bs p b keeps cs' k
