-- Three tables of numbers, and the circuit that they mean.
use Rattle.std.specs.Prelude.{◌≡◌, ℕ, ◌+◌, ◌<◌, ◌≤◌, List, [], ◌∷◌, length, slice_index, slice_range}
use Rattle.circuit.specs.Circuit.{Circuit}

-- where net f begins: the end of the net before, 0 for the first
abbrev pub start : List ℕ → ℕ → ℕ
start ends f = slice_index (0 ∷ ends) f

-- each net's parts are the joins from where it begins up to its end
abbrev pub cuts : ℕ → List ℕ → List ℕ → List (List ℕ)
cuts from [] joins = []
cuts from (e ∷ es) joins = slice_range joins from e ∷ cuts e es joins

abbrev pub circuit_of : List ℕ → List ℕ → List ℕ → Circuit
circuit_of classes ends joins = record { classes = classes; nets = cuts 0 ends joins }

-- each net has at least so many parts
abbrev pub Spans : ℕ → List ℕ → Type 0
Spans least ends = (f : ℕ) → f < length ends → slice_index (0 ∷ ends) f + least ≤ slice_index ends f

-- no end is below the one before
abbrev pub Rises : List ℕ → Type 0
Rises ends = (f : ℕ) → f < length ends → slice_index (0 ∷ ends) f ≤ slice_index ends f

-- the last end is the number of joins
abbrev pub Closes : List ℕ → List ℕ → Type 0
Closes ends joins = slice_index (0 ∷ ends) (length ends) ≡ length joins

-- within a net, each part is below the next
abbrev pub Climbs : List ℕ → List ℕ → Type 0
Climbs ends joins = (f k : ℕ) → (f < length ends) × (slice_index (0 ∷ ends) f ≤ k) × (k + 1 < slice_index ends f) → slice_index joins k < slice_index joins (k + 1)

-- each join is one of n parts
abbrev pub Below : List ℕ → ℕ → Type 0
Below joins n = (k : ℕ) → k < length joins → slice_index joins k < n
