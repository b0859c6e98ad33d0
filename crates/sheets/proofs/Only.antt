-- A joins sheet that is read is written from its rows.
use Rattle.std.proofs.Common.{◌≡◌, ℕ, ◌+◌, ◌^◌, ◌<◌, ◌≤◌, Bool, true, false, cond, eqb, ltb, leb, List, [], ◌∷◌, ◌++◌, length, Some, None, Ok, Err, decimal, Option, sym, refl, ap, ◌∙◌, subst, append-nil, arith}
use Rattle.std.specs.List.{flat_map}
use Rattle.std.proofs.lemmas.Fmt.{decimal-digits_value}
use Rattle.std.proofs.lemmas.Bool.{ltb-true, ltb-false, leb-true, eqb-true}
use Rattle.sheets.specs.declared.entry.Join.{Join}
use Rattle.sheets.specs.Lines.{closed, fields, fronted}
use Rattle.sheets.specs.Numbers.{numeral, at_most, index_of}
use Rattle.sheets.specs.Rows.{bad, kept, join_row, join_by, joined_at, join_names, just_two, last_net}
use Rattle.sheets.specs.Laws.{ended_line, Says, Holdable, join_text, JoinsOnly}
use Rattle.sheets.proofs.Digits.{numeral_is}
use Rattle.sheets.proofs.Back.{own}
use Rattle.sheets.proofs.Ends.{join_ends}
use Rattle.sheets.proofs.Wholes.{read_good}
use Rattle.circuit.specs.declared.refusal.Reason.TheVariants.{NetOrder, TableFull}

abbrev spread : List (List ℕ) → List ℕ
spread [] = []
spread (f ∷ fs) = f ++ flat_map (λ g. 32 ∷ g) fs

fields_some : (t : List ℕ) → 0 < length (fields t)
fields_some [] = omega arith
fields_some (b ∷ bs) = go (eqb b 32) (fields bs)
  where
    go : (x : Bool) (fs : List (List ℕ)) → 0 < length (cond x ([] ∷ fs) (fronted b fs))
    go true fs = omega arith
    go false [] = omega arith
    go false (f ∷ fs) = omega arith

fields_whole : (t : List ℕ) → spread (fields t) ≡ t
fields_whole [] = refl
fields_whole (b ∷ bs) = go (eqb b 32) refl (fields bs) (fields_some bs) (fields_whole bs)
  where
    go : (x : Bool) → eqb b 32 ≡ x → (fs : List (List ℕ)) → 0 < length fs → spread fs ≡ bs → spread (cond x ([] ∷ fs) (fronted b fs)) ≡ b ∷ bs
    go x q [] k h = absurd (omega arith)
    go true q (f ∷ fs) k h = ap (λ z. z ∷ spread (f ∷ fs)) (sym (eqb-true b 32 q)) ∙ ap (λ z. b ∷ z) h
    go false q (f ∷ fs) k h = ap (λ z. b ∷ z) h

numeral_from : (ds : List ℕ) (n : ℕ) → numeral ds ≡ Some n → n < 2 ^ 64 → ds ≡ decimal n
numeral_from ds n e small =
    let w = numeral_is ds n e in
    sym (decimal-digits_value own ds w.3 w.0 w.2 (omega (arith, w.4))) ∙ ap decimal w.4

index_from : (ds : List ℕ) (n : ℕ) → index_of ds ≡ Some n → (ds ≡ decimal n) × (n ≤ 4095)
index_from ds n e = go (numeral ds) refl e
  where
    go : (x : Option ℕ) → numeral ds ≡ x → at_most 4095 x ≡ Some n → (ds ≡ decimal n) × (n ≤ 4095)
    go None q k = cc
    go (Some m) q k = then (leb m 4095) refl k
      where
        then : (b : Bool) → leb m 4095 ≡ b → cond b (Some m) None ≡ Some n → (ds ≡ decimal n) × (n ≤ 4095)
        then true h j =
            let is : m ≡ n = cc in
            let low : n ≤ 4095 = omega (arith, leb-true m 4095 h) in
            (numeral_from ds n (q ∙ ap Some is) (omega arith), low)
        then false h j = cc

abbrev Written : List Join → List ℕ → Join → Type 0
Written before t r = (t ≡ join_text r) × (last_net before ≤ r.net) × (r.net ≤ 4095) × (r.part ≤ 4095) × (length before < 16384)

module _ (before : List Join) (t : List ℕ) (r : Join) where
  by_room : (a b : List ℕ) (n v : ℕ) → fields t ≡ a ∷ b ∷ [] → index_of a ≡ Some n → index_of b ≡ Some v → last_net before ≤ n
      → (x : Bool) → ltb (length before) 16384 ≡ x → cond x (Ok (record { net = n; part = v })) (Err (bad TableFull 0)) ≡ Ok r → Written before t r
  by_room a b n v q i j low true h k =
      let first = index_from a n i in
      let second = index_from b v j in
      let is : record { net = n; part = v } ≡ r = cc in
      let whole : t ≡ a ++ 32 ∷ (b ++ []) = sym (fields_whole t) ∙ ap spread q in
      subst (Written before t) is
      (whole ∙ ap (λ z. a ++ 32 ∷ z) (append-nil b) ∙ ap (λ z. z ++ 32 ∷ b) first.0 ∙ ap (λ z. decimal n ++ 32 ∷ z) second.0, low, first.1, second.1, ltb-true _ _ h)
  by_room a b n v q i j low false h k = cc

  by_net : (a b : List ℕ) (n v : ℕ) → fields t ≡ a ∷ b ∷ [] → index_of a ≡ Some n → index_of b ≡ Some v
      → (x : Bool) → ltb n (last_net before) ≡ x → cond x (Err (bad NetOrder 0)) (kept 16384 before (record { net = n; part = v })) ≡ Ok r → Written before t r
  by_net a b n v q i j true h k = cc
  by_net a b n v q i j false h k = by_room a b n v q i j (ltb-false _ _ h) (ltb (length before) 16384) refl k

  by_index : (a b : List ℕ) → fields t ≡ a ∷ b ∷ [] → (x y : Option ℕ) → index_of a ≡ x → index_of b ≡ y → joined_at before (length a + 1) x y ≡ Ok r → Written before t r
  by_index a b q None y i j k = cc
  by_index a b q (Some n) None i j k = cc
  by_index a b q (Some n) (Some v) i j k = by_net a b n v q i j (ltb n (last_net before)) refl k

  by_fields : (fs : List (List ℕ)) → fields t ≡ fs → join_by before (just_two fs) ≡ Ok r → Written before t r
  by_fields [] q k = cc
  by_fields (a ∷ []) q k = cc
  by_fields (a ∷ b ∷ []) q k = by_index a b q (index_of a) (index_of b) refl refl k
  by_fields (a ∷ b ∷ c ∷ fs) q k = cc

  pub join_from : join_row before (closed t) ≡ Ok r → Written before t r
  join_from e = by_fields (fields t) refl e

held : (before : List Join) (ts : List (List ℕ)) (rows : List Join) → Says join_row before ts rows → (flat_map ended_line ts ≡ flat_map (λ r. ended_line (join_text r)) rows) × Holdable before rows
held before [] [] h = (refl, tt)
held before [] (r ∷ rs) h = absurd h
held before (t ∷ ts) [] h = absurd h
held before (t ∷ ts) (r ∷ rs) h =
    let w = join_from before t r h.0 in
    let more = held (before ++ r ∷ []) ts rs h.1 in
    (ap (λ z. ended_line z ++ flat_map ended_line ts) w.0 ∙ ap (λ z. ended_line (join_text r) ++ z) more.0, (w.1, w.2, w.3, w.4, more.1))

pub joins_only : JoinsOnly
joins_only file bytes rows e =
    let g = read_good join_row join_ends join_names file bytes rows e in
    let h = held [] g.texts rows g.says in
    (g.whole ∙ ap (λ z. ended_line join_names ++ z) h.0, h.1)
