-- A circuit some of whose nets are blanked.
use Rattle.std.specs.Prelude.{◌≡◌, ℕ, suc, Bool, true, false, cond, List, [], ◌∷◌, length, refl}
use Rattle.std.proofs.Common.{ap, arith}
use Rattle.std.specs.List.{AllByRecursion}
use Rattle.circuit.specs.Circuit.{Circuit, Sound, Small, Ascends, AllBelow, parts}

-- each net with a mark is empty
abbrev pub blanked : List Bool → List (List ℕ) → List (List ℕ)
blanked ms [] = []
blanked [] (n ∷ ns) = n ∷ ns
blanked (m ∷ ms) (n ∷ ns) = cond m [] n ∷ blanked ms ns

abbrev pub blank : List Bool → Circuit → Circuit
blank ms c = record { classes = c.classes; nets = blanked ms c.nets }

pub blanked_length : (ms : List Bool) (ns : List (List ℕ)) → length (blanked ms ns) ≡ length ns
blanked_length ms [] = refl
blanked_length [] (n ∷ ns) = refl
blanked_length (m ∷ ms) (n ∷ ns) = ap suc (blanked_length ms ns)

-- what holds of each net, and of an empty one, holds of each net that is left
blanked_all : (P : List ℕ → Type 0) → P [] → (ms : List Bool) (ns : List (List ℕ)) → AllByRecursion P ns → AllByRecursion P (blanked ms ns)
blanked_all P none ms [] h = tt
blanked_all P none [] (n ∷ ns) h = h
blanked_all P none (true ∷ ms) (n ∷ ns) h = (none, blanked_all P none ms ns h.1)
blanked_all P none (false ∷ ms) (n ∷ ns) h = (h.0, blanked_all P none ms ns h.1)

pub blank_sound : (ms : List Bool) (c : Circuit) → Sound c → Sound (blank ms c)
blank_sound ms c s = blanked_all (λ xs. Ascends xs × AllBelow (parts c) xs) (tt, tt) ms c.nets s

pub blank_small : (ms : List Bool) (c : Circuit) → Small c → Small (blank ms c)
blank_small ms c s = record { few_parts = s.few_parts; few_nets = omega (arith, s.few_nets, blanked_length ms c.nets) }
