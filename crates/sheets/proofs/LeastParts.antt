-- The fault of a line of a parts sheet is the least of what is wrong with it.
use Rattle.std.proofs.Common.{◌≡◌, ℕ, ◌+◌, ◌<◌, ◌≤◌, Bool, true, false, cond, ltb, ◌⊎◌, List, length, pos, Some, None, Ok, Err, Option, Result, sym, refl, ap, ◌∙◌, subst, inl, inr, arith}
use lib.Ieee.{binary64, of_int}
use Rattle.std.proofs.lemmas.Bool.{ltb-false}
use Rattle.labels.specs.declared.kinds.Measured.{Measured}
use Rattle.labels.specs.declared.kinds.Measured.TheVariants.{Ohms, Picofarads, Code}
use Rattle.sheets.specs.declared.entry.Kind.{Kind}
use Rattle.sheets.specs.declared.entry.Kind.TheVariants.{Resistor, Capacitor, Coded}
use Rattle.circuit.specs.declared.refusal.Refusal.{Refusal}
use Rattle.circuit.specs.Refusals.{number_of}
use Rattle.sheets.specs.Numbers.{kind_of, scaled, code_of}
use Rattle.sheets.specs.Rows.{bad, number_fault, measure, in_table, two_fields, part_by}
use Rattle.sheets.specs.Wrongs.{value_in, WrongValue, WrongPart, Least, PartsLeast}
use Rattle.circuit.specs.declared.refusal.Reason.TheVariants.{FieldCount, NumberField, KindField, TableFull}

module _ (before : List Measured) (a b : List ℕ) where
  fault44 : value_in (kind_of a) b ≡ None → Least (WrongValue before a b) (bad NumberField (length a + 1))
  fault44 j = (inl (refl, refl, j), λ n p w. grind arith)

  fault45 : (m : ℕ) → value_in (kind_of a) b ≡ Some m → kind_of a ≡ None → Least (WrongValue before a b) (bad KindField 0)
  fault45 m j i = (inr (inl (refl, refl, i)), λ n p w. grind arith)

  fault47 : (m : ℕ) (t : Kind) → value_in (kind_of a) b ≡ Some m → kind_of a ≡ Some t → 4096 ≤ length before → Least (WrongValue before a b) (bad TableFull 0)
  fault47 m t j i full = (inr (inr (refl, refl, full)), λ n p w. grind arith)

  -- a number, and what is made of it
  by_number : (e : Refusal) (t : Kind) (f : ℕ → Measured) (y : Option ℕ) → kind_of a ≡ Some t → value_in (kind_of a) b ≡ y
      → in_table before (number_fault (length a + 1) y (λ n. Ok (f n))) ≡ Err e → Least (WrongValue before a b) e
  by_number e t f None i j k = let is : bad NumberField (length a + 1) ≡ e = cc in subst (Least (WrongValue before a b)) is (fault44 j)
  by_number e t f (Some m) i j k = go (ltb (length before) 4096) refl k
    where
      go : (x : Bool) → ltb (length before) 4096 ≡ x → cond {A = Result Measured Refusal} x (Ok (f m)) (Err (bad TableFull 0)) ≡ Err e → Least (WrongValue before a b) e
      go true h k = cc
      go false h k = let is : bad TableFull 0 ≡ e = cc in subst (Least (WrongValue before a b)) is (fault47 m t j i (ltb-false _ _ h))

  by_none : (e : Refusal) (y : Option ℕ) → kind_of a ≡ None → value_in (kind_of a) b ≡ y → in_table before (number_fault (length a + 1) y (λ n. Err (bad KindField 0))) ≡ Err e → Least (WrongValue before a b) e
  by_none e None i j k = let is : bad NumberField (length a + 1) ≡ e = cc in subst (Least (WrongValue before a b)) is (fault44 j)
  by_none e (Some m) i j k = let is : bad KindField 0 ≡ e = cc in subst (Least (WrongValue before a b)) is (fault45 m j i)

  by_kind : (e : Refusal) (x : Option Kind) → kind_of a ≡ x → in_table before (measure (length a + 1) x b) ≡ Err e → Least (WrongValue before a b) e
  by_kind e None i k = by_none e (scaled b) i (ap (λ z. value_in z b) i) k
  by_kind e (Some Resistor) i k = by_number e Resistor (λ n. Ohms (of_int binary64 (pos n))) (scaled b) i (ap (λ z. value_in z b) i) k
  by_kind e (Some Capacitor) i k = by_number e Capacitor (λ n. Picofarads (of_int binary64 (pos n))) (scaled b) i (ap (λ z. value_in z b) i) k
  by_kind e (Some Coded) i k = by_number e Coded (λ n. Code n) (code_of b) i (ap (λ z. value_in z b) i) k

pub parts_least : PartsLeast
parts_least before l e k = go (two_fields l) refl k
  where
    go : (x : Option (List ℕ × List ℕ)) → two_fields l ≡ x → part_by before x ≡ Err e → Least (WrongPart before l) e
    go None q k =
        let is : bad FieldCount 0 ≡ e = cc in
        subst (Least (WrongPart before l)) is (inl (refl, refl, q), λ n p w. grind arith)
    go (Some f) q k = (inr (f.0, f.1, q, pair.0), least)
      where
        pair : Least (WrongValue before f.0 f.1) e
        pair = by_kind before f.0 f.1 e (kind_of f.0) refl k

        least : (n p : ℕ) → WrongPart before l n p → (number_of e.reason < n) ⊎ ((number_of e.reason ≡ n) × (e.place ≤ p))
        least n p (inl w) = cc (sym q ∙ w.2)
        least n p (inr w) =
            let same : (w.0, w.1) ≡ f = cc (sym w.2 ∙ q) in
            pair.1 n p (subst (λ g. WrongValue before g.0 g.1 n p) same w.3)
