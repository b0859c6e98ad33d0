-- The numbers and words of a field.
use Rattle.std.specs.Prelude.{ℕ, ◌+◌, ◌-◌, ◌*◌, Bool, false, cond, not, ◌&&◌, ◌||◌, List, [], ◌∷◌, length, take, Some, None, Option, ◌==◌, nat_le, nat_lt, slice_index}
use Rattle.std.specs.Char.{is_ascii_digit}
use Rattle.std.specs.Str.{all_ascii_digits}
use Rattle.sheets.specs.declared.entry.Kind.{Kind}
use Rattle.sheets.specs.declared.entry.Kind.TheVariants.{Resistor, Capacitor, Coded}

abbrev pub starts_digit : List ℕ → Bool
starts_digit [] = false
starts_digit (b ∷ bs) = is_ascii_digit b

abbrev pub value_on : ℕ → List ℕ → ℕ
value_on n [] = n
value_on n (b ∷ bs) = value_on (n * 10 + (b - 48)) bs

-- 1 to 9 bytes, the first of several not the digit 0
abbrev pub shaped : List ℕ → Bool
shaped ds = nat_lt 0 (length ds) && nat_le (length ds) 9 && (length ds == 1 || not (slice_index ds 0 == 48))

-- the number that a field writes, if it writes one
abbrev pub numeral : List ℕ → Option ℕ
numeral ds = cond (shaped ds && all_ascii_digits ds) (Some (value_on 0 ds)) None

abbrev pub at_most : ℕ → Option ℕ → Option ℕ
at_most m None = None
at_most m (Some n) = cond (nat_le n m) (Some n) None

abbrev pub times : ℕ → Option ℕ → Option ℕ
times k None = None
times k (Some n) = Some (n * k)

-- a net's or a part's number
abbrev pub index_of : List ℕ → Option ℕ
index_of ds = at_most 4095 (numeral ds)

abbrev pub code_of : List ℕ → Option ℕ
code_of ds = at_most 65535 (numeral ds)

-- 107 is k and 77 is M
abbrev pub factor : ℕ → Option ℕ
factor c = cond (c == 107) (Some 1000) (cond (c == 77) (Some 1000000) None)

abbrev pub by_scale : List ℕ → Option ℕ → Option ℕ
by_scale ds None = numeral ds
by_scale ds (Some k) = times k (numeral (take (length ds - 1) ds))

-- a number that a scale letter may follow
abbrev pub scaled : List ℕ → Option ℕ
scaled ds = by_scale ds (factor (slice_index ds (length ds - 1)))

-- 82 is R, 67 is C and 88 is X
abbrev pub letter_kind : ℕ → Option Kind
letter_kind c = cond (c == 82) (Some Resistor) (cond (c == 67) (Some Capacitor) (cond (c == 88) (Some Coded) None))

abbrev pub kind_of : List ℕ → Option Kind
kind_of [] = None
kind_of (c ∷ []) = letter_kind c
kind_of (c ∷ d ∷ cs) = None
