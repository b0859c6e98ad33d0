-- When a board net has, for each class, as many parts as a pattern net.
use Rattle.std.specs.Prelude.{◌≡◌, ℕ, ◌-◌, Bool, true, false, cond, ◌&&◌, List, [], map, length, ◌==◌, nat_le, nat_lt, slice_index, slice_index_or}
use Rattle.circuit.specs.Circuit.{Circuit, parts, N, net, class, on, count, every}

-- part v is on net f and of this class
abbrev pub classed : Circuit → ℕ → ℕ → ℕ → Bool
classed c f cls v = on c v f && class c v == cls

-- net f of b has, for each class, as many parts as net i of p
abbrev pub SameCounts : Circuit → ℕ → Circuit → ℕ → Type 0
SameCounts p i b f = (cls : ℕ) → count (classed p i cls) (parts p) ≡ count (classed b f cls) (parts b)

abbrev pub level_class : Circuit → ℕ → Circuit → ℕ → ℕ → Bool
level_class p i b f cls = count (classed p i cls) (parts p) == count (classed b f cls) (parts b)

-- the same as a test: at the classes of the parts on either side
abbrev pub have_same_counts : Circuit → ℕ → Circuit → ℕ → Bool
have_same_counts p i b f = every (λ u. level_class p i b f (class p u)) (parts p) && every (λ v. level_class p i b f (class b v)) (parts b)

-- the place of a start's last net, and the net
abbrev pub place : List ℕ → ℕ
place s = length s - 1

abbrev pub last : List ℕ → ℕ
last s = slice_index s (place s)

-- what a table of places and nets says of a start; of what it has no entry for it keeps
abbrev pub looked_up : List (List Bool) → List ℕ → Bool
looked_up fits s = cond (nat_lt 0 (length s) && (nat_lt (length s) 17 && nat_lt (last s) 4096)) (slice_index_or (slice_index_or fits (place s) []) (last s) false) true

-- the classes of a net's parts
abbrev pub classes_on : Circuit → ℕ → List ℕ
classes_on c f = map (class c) (net c f)

-- the counts sieve: of a start of at most as many nets as the pattern has, its last net has for each class as many parts as the pattern net at that place
abbrev pub counts_keep : Circuit → Circuit → List ℕ → Bool
counts_keep p b s = cond (nat_lt 0 (length s) && nat_le (length s) (N p)) (have_same_counts p (place s) b (last s)) true
