-- Everything that is wrong with a line of a sheet; its fault is the smallest number at its smallest place.
use Rattle.std.specs.Prelude.{◌≡◌, ℕ, ◌+◌, ◌<◌, ◌≤◌, ◌⊎◌, List, length, pos, Some, None, Err, Option}
use Rattle.sheets.specs.declared.entry.Join.{Join}
use Rattle.sheets.specs.declared.entry.Rail.{Rail}
use Rattle.circuit.specs.declared.refusal.Refusal.{Refusal}
use Rattle.circuit.specs.Refusals.{number_of}
use Rattle.sheets.specs.Lines.{Line}
use Rattle.std.specs.Float.{binary64}
use Rattle.std.specs.Float.Ieee.{of_int, to_unsigned}
use Rattle.labels.specs.declared.kinds.Measured.{Measured}
use Rattle.sheets.specs.declared.entry.Kind.{Kind}
use Rattle.sheets.specs.declared.entry.Kind.TheVariants.{Resistor, Capacitor, Coded}
use Rattle.sheets.specs.Numbers.{index_of, code_of, kind_of, scaled}
use Rattle.sheets.specs.Rows.{two_fields, one_field, join_row, rail_row, part_row, last_net, last_rail}

-- what is wrong with the two fields of a joins line: a number n at a place p
abbrev pub WrongPair : List Join → List ℕ → List ℕ → ℕ → ℕ → Type 0
WrongPair before a b n p =
    ((n ≡ 44) × (p ≡ 0) × (index_of a ≡ None))
    ⊎ (((n ≡ 44) × (p ≡ length a + 1) × (index_of b ≡ None))
    ⊎ (((n ≡ 46) × (p ≡ 0) × ((net : ℕ) × (index_of a ≡ Some net) × (net < last_net before)))
    ⊎ ((n ≡ 47) × (p ≡ 0) × (16384 ≤ length before))))

abbrev pub WrongJoin : List Join → Line → ℕ → ℕ → Type 0
WrongJoin before l n p =
    ((n ≡ 43) × (p ≡ 0) × (two_fields l ≡ None))
    ⊎ ((a : List ℕ) × (b : List ℕ) × (two_fields l ≡ Some (a, b)) × WrongPair before a b n p)

-- one of them, and no other comes before it
abbrev pub Least : (ℕ → ℕ → Type 0) → Refusal → Type 0
Least W e = W (number_of e.reason) e.place × ((n p : ℕ) → W n p → (number_of e.reason < n) ⊎ ((number_of e.reason ≡ n) × (e.place ≤ p)))

abbrev pub JoinsLeast : Type 0
JoinsLeast = (before : List Join) (l : Line) (e : Refusal) → join_row before l ≡ Err e → Least (WrongJoin before l) e

-- a value with its scale letter, as a binary64, is just its number
abbrev pub ValuesExact : Type 0
ValuesExact = (ds : List ℕ) (n : ℕ) → scaled ds ≡ Some n → to_unsigned 64 (of_int binary64 (pos n)) ≡ n

-- the number that a value writes under a kind; under an unknown kind a scale letter counts as allowed
abbrev pub value_in : Option Kind → List ℕ → Option ℕ
value_in None v = scaled v
value_in (Some Resistor) v = scaled v
value_in (Some Capacitor) v = scaled v
value_in (Some Coded) v = code_of v

-- the same of a parts sheet
abbrev pub WrongValue : List Measured → List ℕ → List ℕ → ℕ → ℕ → Type 0
WrongValue before a b n p =
    ((n ≡ 44) × (p ≡ length a + 1) × (value_in (kind_of a) b ≡ None))
    ⊎ (((n ≡ 45) × (p ≡ 0) × (kind_of a ≡ None))
    ⊎ ((n ≡ 47) × (p ≡ 0) × (4096 ≤ length before)))

abbrev pub WrongPart : List Measured → Line → ℕ → ℕ → Type 0
WrongPart before l n p =
    ((n ≡ 43) × (p ≡ 0) × (two_fields l ≡ None))
    ⊎ ((a : List ℕ) × (b : List ℕ) × (two_fields l ≡ Some (a, b)) × WrongValue before a b n p)

abbrev pub PartsLeast : Type 0
PartsLeast = (before : List Measured) (l : Line) (e : Refusal) → part_row before l ≡ Err e → Least (WrongPart before l) e

-- the same of a rails sheet
abbrev pub WrongSingle : List Rail → List ℕ → ℕ → ℕ → Type 0
WrongSingle before a n p =
    ((n ≡ 44) × (p ≡ 0) × (index_of a ≡ None))
    ⊎ (((n ≡ 46) × (p ≡ 0) × ((net : ℕ) × (index_of a ≡ Some net) × (net < last_rail before)))
    ⊎ ((n ≡ 47) × (p ≡ 0) × (4096 ≤ length before)))

abbrev pub WrongRail : List Rail → Line → ℕ → ℕ → Type 0
WrongRail before l n p =
    ((n ≡ 43) × (p ≡ 0) × (one_field l ≡ None))
    ⊎ ((a : List ℕ) × (one_field l ≡ Some a) × WrongSingle before a n p)

abbrev pub RailsLeast : Type 0
RailsLeast = (before : List Rail) (l : Line) (e : Refusal) → rail_row before l ≡ Err e → Least (WrongRail before l) e
