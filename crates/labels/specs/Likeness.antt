-- The likeness of measured labels is the equality that their type derives, and so it has the laws of that equality.
use Rattle.std.specs.Prelude.{◌≡◌, Bool, true, false, T, refl, Float}
use Rattle.std.specs.Float.{float_is_finite, nan, inf, fin}
use Rattle.std.specs.Float.Ieee.{eq, is_nan}
use Rattle.std.specs.Float.Ieee.Fits.{and_l}
use Rattle.std.proofs.Common.{sym, ◌∙◌, subst, ⊎_elim}
use Rattle.std.proofs.Math.Dec.{eqb_refl}
use Rattle.std.proofs.lemmas.Float.{le_refl, lt_irrefl, lt-or-eq, T_from_true}
use Rattle.labels.specs.Kinds.{measured_fit, measured_alike}
use Rattle.labels.specs.declared.kinds.Measured.{Measured}
use Rattle.labels.specs.declared.kinds.Measured.TheVariants.{Ohms, Picofarads, Code}
use Rattle.labels.specs.contracts.kinds.MeasuredPartialEq.TheImpl as derived
use Rattle.labels.specs.contracts.kinds.MeasuredPartialEq.TheImpl.Laws.{laws-law}

pub measured_equal : (x y : Measured) → derived.ghosts.eq x y ≡ measured_alike x y
measured_equal (Ohms x) (Ohms y) = refl
measured_equal (Ohms x) (Picofarads y) = refl
measured_equal (Ohms x) (Code n) = refl
measured_equal (Picofarads x) (Ohms y) = refl
measured_equal (Picofarads x) (Picofarads y) = refl
measured_equal (Picofarads x) (Code n) = refl
measured_equal (Code m) (Ohms y) = refl
measured_equal (Code m) (Picofarads y) = refl
measured_equal (Code m) (Code n) = refl

pub true_from : (b : Bool) → T b → b ≡ true
true_from true t = refl
true_from false t = absurd t

-- a finite number equals itself
pub finite_itself : (x : Float) → T (float_is_finite x) → T (eq x x)
unfolding float_is_finite is_nan
finite_itself nan h = absurd h
finite_itself (inf s) h = absurd h
finite_itself (fin s m e) h = ⊎_elim (λ l. absurd (lt_irrefl (fin s m e) l)) (λ t. t) (lt-or-eq (fin s m e) (fin s m e) (le_refl (fin s m e) tt))

pub measured_itself : (x : Measured) → T (measured_fit x) → T (measured_alike x x)
measured_itself (Ohms x) h = finite_itself x (and_l _ _ h)
measured_itself (Picofarads x) h = finite_itself x (and_l _ _ h)
measured_itself (Code n) h = eqb_refl n

pub measured_turned : (x y : Measured) → T (measured_fit x) → T (measured_fit y) → T (measured_alike x y) → T (measured_alike y x)
measured_turned x y fx fy h = subst T (sym (measured_equal x y) ∙ laws-law.symm x y ∙ measured_equal y x) h

pub measured_chained : (x y z : Measured) → T (measured_fit x) → T (measured_fit y) → T (measured_fit z) → T (measured_alike x y) → T (measured_alike y z) → T (measured_alike x z)
measured_chained x y z fx fy fz h k =
    T_from_true _ (sym (measured_equal x z)
    ∙ laws-law.trans x y z (measured_equal x y ∙ true_from _ h) (measured_equal y z ∙ true_from _ k))
