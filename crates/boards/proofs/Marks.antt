-- What marks leave of a net.
use Rattle.std.proofs.Common.{◌≡◌, ℕ, zero, suc, Bool, true, false, cond, List, [], ◌∷◌, get_or, replicate, refl, ap, ◌∙◌}
use Rattle.circuit.specs.Circuit.{Circuit}
use Rattle.boards.specs.Blank.{blanked, blank}

cond_same : (m : Bool) → ◌≡◌ {A = List ℕ} [] (cond m [] [])
cond_same true = refl
cond_same false = refl

pub blanked_at : (ms : List Bool) (ns : List (List ℕ)) (f : ℕ) → get_or (blanked ms ns) f [] ≡ cond (get_or ms f false) [] (get_or ns f [])
blanked_at ms [] f = cond_same (get_or ms f false)
blanked_at [] (n ∷ ns) f = refl
blanked_at (m ∷ ms) (n ∷ ns) zero = refl
blanked_at (m ∷ ms) (n ∷ ns) (suc f) = blanked_at ms ns f

module _ (ms : List Bool) (ns : List (List ℕ)) (f : ℕ) where
  pub hidden : get_or ms f false ≡ true → get_or (blanked ms ns) f [] ≡ []
  hidden e = blanked_at ms ns f ∙ ap (λ m. cond m [] (get_or ns f [])) e

  pub shown : get_or ms f false ≡ false → get_or (blanked ms ns) f [] ≡ get_or ns f []
  shown e = blanked_at ms ns f ∙ ap (λ m. cond m [] (get_or ns f [])) e

-- without marks every net stays
pub unmarked : (n : ℕ) (ns : List (List ℕ)) → blanked (replicate n false) ns ≡ ns
unmarked n [] = refl
unmarked zero (x ∷ ns) = refl
unmarked (suc n) (x ∷ ns) = ap (λ rest. x ∷ rest) (unmarked n ns)

pub blank_none : (n : ℕ) (c : Circuit) → blank (replicate n false) c ≡ c
blank_none n c = ap (λ (ns : List (List ℕ)). record { classes = c.classes; nets = ns }) (unmarked n c.nets)
