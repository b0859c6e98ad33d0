-- What a line of each sheet says after the rows before it: a row, or the line's fault.
use Rattle.std.specs.Prelude.{ℕ, ◌+◌, ◌-◌, cond, List, [], ◌∷◌, length, pos, Some, None, Ok, Err, codes, Option, Result, nat_lt, slice_index_or}
use Rattle.std.specs.Float.{binary64}
use Rattle.std.specs.Float.Ieee.{of_int}
use Rattle.labels.specs.declared.kinds.Measured.{Measured}
use Rattle.labels.specs.declared.kinds.Measured.TheVariants.{Ohms, Picofarads, Code}
use Rattle.sheets.specs.declared.entry.Kind.{Kind}
use Rattle.sheets.specs.declared.entry.Kind.TheVariants.{Resistor, Capacitor, Coded}
use Rattle.sheets.specs.declared.entry.Join.{Join}
use Rattle.sheets.specs.declared.entry.Rail.{Rail}
use Rattle.circuit.specs.declared.refusal.Reason.{Reason}
use Rattle.circuit.specs.declared.refusal.Refusal.{Refusal}
use Rattle.sheets.specs.Lines.{Line, fields}
use Rattle.sheets.specs.Numbers.{index_of, code_of, scaled, kind_of}
use Rattle.circuit.specs.declared.refusal.Reason.TheVariants.{FieldCount, NumberField, KindField, NetOrder, TableFull}

abbrev pub bad : Reason → ℕ → Refusal
bad why p = record { reason = why; place = p }

-- the two fields of a line that ended and has just two
abbrev pub just_two : List (List ℕ) → Option (List ℕ × List ℕ)
just_two [] = None
just_two (a ∷ []) = None
just_two (a ∷ b ∷ []) = Some (a, b)
just_two (a ∷ b ∷ c ∷ fs) = None

abbrev pub two_fields : Line → Option (List ℕ × List ℕ)
two_fields l = cond l.ended (just_two (fields l.text)) None

abbrev pub just_one : List (List ℕ) → Option (List ℕ)
just_one [] = None
just_one (a ∷ []) = Some a
just_one (a ∷ b ∷ fs) = None

abbrev pub one_field : Line → Option (List ℕ)
one_field l = cond l.ended (just_one (fields l.text)) None

-- a row if the table has room for one more
abbrev pub kept : {R : Type 0} → ℕ → List R → R → Result R Refusal
kept room before r = cond (nat_lt (length before) room) (Ok r) (Err (bad TableFull 0))

-- a joins sheet: net and part. The net is not below that of the line before
abbrev pub last_net : List Join → ℕ
last_net before = (slice_index_or before (length before - 1) (record { net = 0; part = 0 })).net

abbrev pub joined_at : List Join → ℕ → Option ℕ → Option ℕ → Result Join Refusal
joined_at before place None part = Err (bad NumberField 0)
joined_at before place (Some n) None = Err (bad NumberField place)
joined_at before place (Some n) (Some v) = cond (nat_lt n (last_net before)) (Err (bad NetOrder 0)) (kept 16384 before (record { net = n; part = v }))

abbrev pub join_by : List Join → Option (List ℕ × List ℕ) → Result Join Refusal
join_by before None = Err (bad FieldCount 0)
join_by before (Some f) = joined_at before (length f.0 + 1) (index_of f.0) (index_of f.1)

abbrev pub join_row : List Join → Line → Result Join Refusal
join_row before l = join_by before (two_fields l)

-- a rails sheet: net
abbrev pub last_rail : List Rail → ℕ
last_rail before = (slice_index_or before (length before - 1) (record { net = 0 })).net

abbrev pub railed : List Rail → Option ℕ → Result Rail Refusal
railed before None = Err (bad NumberField 0)
railed before (Some n) = cond (nat_lt n (last_rail before)) (Err (bad NetOrder 0)) (kept 4096 before (record { net = n }))

abbrev pub rail_by : List Rail → Option (List ℕ) → Result Rail Refusal
rail_by before None = Err (bad FieldCount 0)
rail_by before (Some f) = railed before (index_of f)

abbrev pub rail_row : List Rail → Line → Result Rail Refusal
rail_row before l = rail_by before (one_field l)

-- a parts sheet: kind and value
abbrev pub number_fault : {R : Type 0} → ℕ → Option ℕ → (ℕ → Result R Refusal) → Result R Refusal
number_fault place None k = Err (bad NumberField place)
number_fault place (Some n) k = k n

abbrev pub measure : ℕ → Option Kind → List ℕ → Result Measured Refusal
measure place None v = number_fault place (scaled v) (λ n. Err (bad KindField 0))
measure place (Some Resistor) v = number_fault place (scaled v) (λ n. Ok (Ohms (of_int binary64 (pos n))))
measure place (Some Capacitor) v = number_fault place (scaled v) (λ n. Ok (Picofarads (of_int binary64 (pos n))))
measure place (Some Coded) v = number_fault place (code_of v) (λ n. Ok (Code n))

abbrev pub in_table : List Measured → Result Measured Refusal → Result Measured Refusal
in_table before (Ok r) = kept 4096 before r
in_table before (Err e) = Err e

abbrev pub part_by : List Measured → Option (List ℕ × List ℕ) → Result Measured Refusal
part_by before None = Err (bad FieldCount 0)
part_by before (Some f) = in_table before (measure (length f.0 + 1) (kind_of f.0) f.1)

abbrev pub part_row : List Measured → Line → Result Measured Refusal
part_row before l = part_by before (two_fields l)

-- the names lines: `net part`, `net` and `kind value`
abbrev pub join_names : List ℕ
join_names = codes "net part"

abbrev pub rail_names : List ℕ
rail_names = codes "net"

abbrev pub part_names : List ℕ
part_names = codes "kind value"
