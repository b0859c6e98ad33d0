-- The fault of a line of a rails sheet is the least of what is wrong with it.
use Rattle.std.proofs.Common.{◌≡◌, ℕ, ◌<◌, ◌≤◌, Bool, true, false, cond, ltb, ◌⊎◌, List, length, Some, None, Ok, Err, Option, Result, sym, refl, ◌∙◌, subst, inl, inr, arith}
use Rattle.std.proofs.lemmas.Bool.{ltb-true, ltb-false}
use Rattle.circuit.specs.Refusals.{number_of}
use Rattle.circuit.specs.declared.refusal.Reason.TheVariants.{FieldCount, NumberField, NetOrder, TableFull}
use Rattle.circuit.specs.declared.refusal.Refusal.{Refusal}
use Rattle.sheets.specs.declared.entry.Rail.{Rail}
use Rattle.sheets.specs.Numbers.{index_of}
use Rattle.sheets.specs.Rows.{bad, kept, one_field, rail_by, railed, last_rail}
use Rattle.sheets.specs.Wrongs.{WrongSingle, WrongRail, Least, RailsLeast}

module _ (before : List Rail) (a : List ℕ) where
  least_room : (m : ℕ) → index_of a ≡ Some m → last_rail before ≤ m → (e : Refusal)
      → (x : Bool) → ltb (length before) 4096 ≡ x → cond {A = Result Rail Refusal} x (Ok (record { net = m })) (Err (bad TableFull 0)) ≡ Err e → Least (WrongSingle before a) e
  least_room m i low e true h k = cc
  least_room m i low e false h k =
      let is : bad TableFull 0 ≡ e = cc in
      subst (Least (WrongSingle before a)) is (inr (inr (refl, refl, ltb-false _ _ h)), λ n p w. grind arith)

  least_net : (m : ℕ) → index_of a ≡ Some m → (e : Refusal)
      → (x : Bool) → ltb m (last_rail before) ≡ x → cond x (Err (bad NetOrder 0)) (kept 4096 before (record { net = m })) ≡ Err e → Least (WrongSingle before a) e
  least_net m i e true h k =
      let is : bad NetOrder 0 ≡ e = cc in
      subst (Least (WrongSingle before a)) is (inr (inl (refl, refl, (m, i, ltb-true _ _ h))), λ n p w. grind arith)
  least_net m i e false h k = least_room m i (ltb-false _ _ h) e (ltb (length before) 4096) refl k

  least_index : (e : Refusal) (x : Option ℕ) → index_of a ≡ x → railed before x ≡ Err e → Least (WrongSingle before a) e
  least_index e None i k =
      let is : bad NumberField 0 ≡ e = cc in
      subst (Least (WrongSingle before a)) is (inl (refl, refl, i), λ n p w. grind arith)
  least_index e (Some m) i k = least_net m i e (ltb m (last_rail before)) refl k

pub rails_least : RailsLeast
rails_least before l e k = go (one_field l) refl k
  where
    go : (x : Option (List ℕ)) → one_field l ≡ x → rail_by before x ≡ Err e → Least (WrongRail before l) e
    go None q k =
        let is : bad FieldCount 0 ≡ e = cc in
        subst (Least (WrongRail before l)) is (inl (refl, refl, q), λ n p w. grind arith)
    go (Some f) q k = (inr (f, q, pair.0), least)
      where
        pair : Least (WrongSingle before f) e
        pair = least_index before f e (index_of f) refl k

        least : (n p : ℕ) → WrongRail before l n p → (number_of e.reason < n) ⊎ ((number_of e.reason ≡ n) × (e.place ≤ p))
        least n p (inl w) = cc (sym q ∙ w.2)
        least n p (inr w) =
            let same : w.0 ≡ f = cc (sym w.1 ∙ q) in
            pair.1 n p (subst (λ g. WrongSingle before g n p) same w.2)
