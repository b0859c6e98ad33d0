-- What map answers, way by way.
use Rattle.std.proofs.Common.{◌≡◌, ℕ, suc, ◌+◌, ◌≤◌, Bool, true, false, cond, not, ◌&&◌, ltb, leb, List, [], ◌∷◌, length, Some, None, Ok, sym, refl, ap, ◌∙◌, arith}
use Rattle.std.proofs.lemmas.Bool.{cond-true, cond-false, eq-eqb, lt-ltb, le-ltb, leb-false, ltb-false}
use Rattle.std.specs.List.{position_or_len}
use Rattle.circuit.specs.Circuit.{Circuit, parts, N, are_below, are_distinct, meets_cell_rule, is_hit}
use Rattle.circuit.specs.declared.refusal.Reason.TheVariants.{ShortOutput, ShortTaken}
use Rattle.matching.specs.Mapped.{past, refuse, unless_past, verdict}
use Rattle.matching.specs.declared.answer.MapAnswer.TheVariants.{Map, NoHit}

low_all : (n : ℕ) (t : List ℕ) → length t ≤ position_or_len (leb n) t → are_below n t ≡ true
low_all n [] h = refl
low_all n (x ∷ xs) h = go (leb n x) refl h (low_all n xs)
  where
    go : (b : Bool) → leb n x ≡ b → suc (length xs) ≤ cond (not b) (1 + position_or_len (leb n) xs) 0 → (length xs ≤ position_or_len (leb n) xs → are_below n xs ≡ true) → (ltb x n && are_below n xs) ≡ true
    go true e l rest = absurd (omega arith)
    go false e l rest = ap (λ (b : Bool). b && are_below n xs) (lt-ltb x n (leb-false n x e)) ∙ rest (omega arith)

pub past_none : (n : ℕ) (t : List ℕ) → past n t ≡ None → are_below n t ≡ true
past_none n t e = low_all n t (ltb-false (position_or_len (leb n) t) (length t) (found_none (ltb (position_or_len (leb n) t) (length t)) (position_or_len (leb n) t) e))
  where
    found_none : (b : Bool) (i : ℕ) → cond b (Some i) None ≡ None → b ≡ false
    found_none true i e = let z : ◌≡◌ {A = ℕ} 0 1 = cc in absurd (omega arith)
    found_none false i e = refl

module _ (p b : Circuit) (t : List ℕ) (room bytes : ℕ) (long : length t ≡ N p) where
  pub verdict_hit :
      past (N b) t ≡ None → parts p ≤ room → parts b ≤ bytes → (are_distinct t && meets_cell_rule p (N p) b t) ≡ true → Ok Map ≡ verdict p b t room bytes
  verdict_hit h k l q =
      sym (
      cond-true _ _ _ (eq-eqb (length t) (N p) long)
      ∙ ap (λ o. unless_past o (cond (ltb room (parts p)) (refuse ShortOutput 0) (cond (ltb bytes (parts b)) (refuse ShortTaken 0) (Ok (cond (is_hit p b t) Map NoHit))))) h
      ∙ cond-false _ _ _ (le-ltb room (parts p) k)
      ∙ cond-false _ _ _ (le-ltb bytes (parts b) l)
      ∙ ap (λ (x : Bool). Ok (cond x Map NoHit)) hit
      )
    where
      hit : is_hit p b t ≡ true
      hit =
          ap (λ (x : Bool). x && (are_below (N b) t && (are_distinct t && meets_cell_rule p (N p) b t))) (eq-eqb (length t) (N p) long)
          ∙ ap (λ (x : Bool). x && (are_distinct t && meets_cell_rule p (N p) b t)) (past_none (N b) t h)
          ∙ q
