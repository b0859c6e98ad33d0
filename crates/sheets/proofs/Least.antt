-- The fault of a line of a joins sheet is the least of what is wrong with it.
use Rattle.std.proofs.Common.{◌≡◌, ℕ, ◌+◌, ◌<◌, ◌≤◌, Bool, true, false, cond, ltb, ◌⊎◌, List, length, Some, None, Ok, Err, Option, Result, sym, refl, ◌∙◌, subst, inl, inr, arith}
use Rattle.std.proofs.lemmas.Bool.{ltb-true, ltb-false}
use Rattle.sheets.specs.declared.entry.Join.{Join}
use Rattle.circuit.specs.declared.refusal.Refusal.{Refusal}
use Rattle.circuit.specs.Refusals.{number_of}
use Rattle.sheets.specs.Numbers.{index_of}
use Rattle.sheets.specs.Rows.{bad, kept, two_fields, join_by, joined_at, last_net}
use Rattle.sheets.specs.Wrongs.{WrongPair, WrongJoin, Least, JoinsLeast}
use Rattle.circuit.specs.declared.refusal.Reason.TheVariants.{FieldCount, NumberField, NetOrder, TableFull}

module _ (before : List Join) (a b : List ℕ) where
  least_room : (m v : ℕ) → index_of a ≡ Some m → index_of b ≡ Some v → last_net before ≤ m → (e : Refusal)
      → (x : Bool) → ltb (length before) 16384 ≡ x → cond {A = Result Join Refusal} x (Ok (record { net = m; part = v })) (Err (bad TableFull 0)) ≡ Err e → Least (WrongPair before a b) e
  least_room m v i j low e true h k = cc
  least_room m v i j low e false h k =
      let is : bad TableFull 0 ≡ e = cc in
      subst (Least (WrongPair before a b)) is (inr (inr (inr (refl, refl, ltb-false _ _ h))), λ n p w. grind arith)

  least_net : (m v : ℕ) → index_of a ≡ Some m → index_of b ≡ Some v → (e : Refusal)
      → (x : Bool) → ltb m (last_net before) ≡ x → cond x (Err (bad NetOrder 0)) (kept 16384 before (record { net = m; part = v })) ≡ Err e → Least (WrongPair before a b) e
  least_net m v i j e true h k =
      let is : bad NetOrder 0 ≡ e = cc in
      subst (Least (WrongPair before a b)) is (inr (inr (inl (refl, refl, (m, i, ltb-true _ _ h)))), λ n p w. grind arith)
  least_net m v i j e false h k = least_room m v i j (ltb-false _ _ h) e (ltb (length before) 16384) refl k

  least_index : (e : Refusal) (x y : Option ℕ) → index_of a ≡ x → index_of b ≡ y → joined_at before (length a + 1) x y ≡ Err e → Least (WrongPair before a b) e
  least_index e None y i j k =
      let is : bad NumberField 0 ≡ e = cc in
      subst (Least (WrongPair before a b)) is (inl (refl, refl, i), λ n p w. grind arith)
  least_index e (Some m) None i j k =
      let is : bad NumberField (length a + 1) ≡ e = cc in
      subst (Least (WrongPair before a b)) is (inr (inl (refl, refl, j)), λ n p w. grind arith)
  least_index e (Some m) (Some v) i j k = least_net m v i j e (ltb m (last_net before)) refl k

pub joins_least : JoinsLeast
joins_least before l e k = go (two_fields l) refl k
  where
    go : (x : Option (List ℕ × List ℕ)) → two_fields l ≡ x → join_by before x ≡ Err e → Least (WrongJoin before l) e
    go None q k =
        let is : bad FieldCount 0 ≡ e = cc in
        subst (Least (WrongJoin before l)) is (inl (refl, refl, q), λ n p w. grind arith)
    go (Some f) q k = (inr (f.0, f.1, q, pair.0), least)
      where
        pair : Least (WrongPair before f.0 f.1) e
        pair = least_index before f.0 f.1 e (index_of f.0) (index_of f.1) refl refl k

        least : (n p : ℕ) → WrongJoin before l n p → (number_of e.reason < n) ⊎ ((number_of e.reason ≡ n) × (e.place ≤ p))
        least n p (inl w) = cc (sym q ∙ w.2)
        least n p (inr w) =
            let same : (w.0, w.1) ≡ f = cc (sym w.2 ∙ q) in
            pair.1 n p (subst (λ g. WrongPair before g.0 g.1 n p) same w.3)
