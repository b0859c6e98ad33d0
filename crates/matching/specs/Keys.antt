-- The cells of the parts on a start's nets, each part once: at the first net of the start that has it.
use Rattle.std.specs.Prelude.{◌≡◌, ℕ, zero, suc, ◌+◌, ◌%◌, ◌^◌, ◌<◌, Bool, cond, List, [], ◌∷◌, ◌++◌, length, ◌==◌, slice_index}
use Rattle.circuit.specs.Circuit.{Circuit, net, class, mask}
use Rattle.matching.specs.declared.cell.Cell.{Cell}

abbrev pub cell_of : Circuit → List ℕ → ℕ → Cell
cell_of c s v = record { class = class c v; mask = mask c s v }

-- none of the first i nets of s has v
abbrev pub fresh : Circuit → List ℕ → ℕ → ℕ → Bool
fresh c s i v = mask c s v % 2 ^ i == 0

abbrev pub picked : Circuit → List ℕ → ℕ → List ℕ → List Cell
picked c s i [] = []
picked c s i (v ∷ vs) = cond (fresh c s i v) (cell_of c s v ∷ picked c s i vs) (picked c s i vs)

-- the cells at the first i nets of s
abbrev pub keys : Circuit → List ℕ → ℕ → List Cell
keys c s zero = []
keys c s (suc i) = keys c s i ++ picked c s i (net c (slice_index s i))

-- how many joins the first i nets of s have together
abbrev pub sizes : Circuit → List ℕ → ℕ → ℕ
sizes c s zero = 0
sizes c s (suc i) = sizes c s i + length (net c (slice_index s i))

-- each of the first n nets of s is as long as the pattern net at its place
abbrev pub SameSizes : Circuit → Circuit → List ℕ → ℕ → Type 0
SameSizes p b s n = (i : ℕ) → i < n → length (net p i) ≡ length (net b (slice_index s i))
