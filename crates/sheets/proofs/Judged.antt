-- Lines that are good.
use Rattle.std.proofs.Common.{◌≡◌, ℕ, ◌+◌, ◌<◌, ◌≤◌, cond, List, length, Some, Ok, Err, sym, ap, ◌∙◌}
use Rattle.std.proofs.lemmas.Bool.{lt-ltb, le-ltb}
use Rattle.sheets.specs.declared.entry.Join.{Join}
use Rattle.sheets.specs.Lines.{Line}
use Rattle.sheets.specs.Numbers.{index_of}
use Rattle.sheets.specs.Rows.{bad, kept, two_fields, join_row, join_by, joined_at, last_net}
use Rattle.circuit.specs.declared.refusal.Reason.TheVariants.{NetOrder, TableFull}

pub kept_ok : {R : Type 0} (room : ℕ) (before : List R) (r : R) → length before < room → Ok r ≡ kept room before r
kept_ok room before r h = ap (λ b. cond b (Ok r) (Err (bad TableFull 0))) (sym (lt-ltb _ _ h))

pub join_ok : (before : List Join) (l : Line) (a b : List ℕ) (n v : ℕ) → Some (a, b) ≡ two_fields l → Some n ≡ index_of a → Some v ≡ index_of b → last_net before ≤ n → length before < 16384 → Ok (record { net = n; part = v }) ≡ join_row before l
join_ok before l a b n v e p q low room =
    let r : Join = record { net = n; part = v } in
    kept_ok 16384 before r room
    ∙ ap (λ x. cond x (Err (bad NetOrder 0)) (kept 16384 before r)) (sym (le-ltb _ _ low))
    ∙ ap (λ x. joined_at before (length a + 1) x (Some v)) p
    ∙ ap (λ x. joined_at before (length a + 1) (index_of a) x) q
    ∙ ap (join_by before) e
