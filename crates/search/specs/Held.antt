-- How a search holds its bookmark, and what its answers say.
use Rattle.std.specs.Prelude.{ℕ, ◌≤◌, Bool, cond, ◌&&◌, List, [], ◌∷◌, ◌++◌, map, length, Ok, Err, Result, nat_le, nat_lt}
use Rattle.circuit.specs.Circuit.{AllBelow, are_below}
use Rattle.promise.specs.Order.{Mark, at, end}
use Rattle.promise.specs.Search.{Rules, raise, Answer as Said, hit, finished, paused, refused}
use Rattle.search.specs.declared.bookmark.Level.{Level}
use Rattle.search.specs.declared.bookmark.Search.{Search}
use Rattle.search.specs.declared.calls.Answer.{Answer}
use Rattle.search.specs.declared.calls.Answer.TheVariants.{Hit, Finished, Paused}
use Rattle.circuit.specs.Refusals.{number_of}
use Rattle.circuit.specs.declared.refusal.Refusal.{Refusal}

-- the net numbers of the levels
abbrev pub nets : List Level → List ℕ
nets ls = map (λ (l : Level). l.net) ls

-- those of the levels in use
abbrev pub held : Search → List ℕ
held q = nets q.levels.items

-- the levels in use are a start: 1 to m numbers below N
abbrev pub is_start : ℕ → ℕ → Search → Bool
is_start m N q = nat_lt 0 (length q.levels.items) && (nat_le (length q.levels.items) m && are_below N (held q))

-- the bookmark; what is no start counts as the end
abbrev pub bookmark : ℕ → ℕ → Search → Mark
bookmark m N q = cond (is_start m N q) (at (held q)) end

-- numbers as a bookmark, with none left the end
abbrev pub standing : List ℕ → Mark
standing [] = end
standing (x ∷ xs) = at (x ∷ xs)

-- the levels in use are none, or a start
pub record Sits (m N : ℕ) (q : Search) : Type 0 where
  pub few : length q.levels.items ≤ m
  pub below : AllBelow N (held q)

-- where a try at s leads, by whether s passes
abbrev pub moved : ℕ → ℕ → Bool → List ℕ → Mark
moved m N pass s = cond pass (cond (nat_lt (length s) m) (at (s ++ 0 ∷ [])) (raise N s)) (raise N s)

-- what an answer says
abbrev pub said : Result Answer Refusal → Said
said (Ok (Hit n)) = hit n
said (Ok (Finished n)) = finished n
said (Ok (Paused n)) = paused n
said (Err e) = refused (number_of e.reason) e.place

abbrev pub rules : ℕ → ℕ → (List ℕ → Bool) → Rules
rules nets_of_pattern nets_of_board passing = record { m = nets_of_pattern; N = nets_of_board; passes = passing }
