-- What fit and alike mean of the two label kinds.
use Rattle.std.specs.Prelude.{Bool, true, false, not, ◌&&◌, ◌==◌, from_bits, Float}
use Rattle.std.specs.Float.Ieee.{eq, le}
use Rattle.std.specs.Float.{float_is_finite, binary64}
use Rattle.labels.specs.declared.kinds.Measured.{Measured}
use Rattle.labels.specs.declared.kinds.Catalogue.{Catalogue}
use Rattle.labels.specs.declared.kinds.Measured.TheVariants.{Ohms, Picofarads, Code}

-- finite and not negative
abbrev pub usable_number : Float → Bool
usable_number x = float_is_finite x && le (from_bits binary64 0) x

abbrev pub measured_fit : Measured → Bool
measured_fit (Ohms x) = usable_number x
measured_fit (Picofarads x) = usable_number x
measured_fit (Code n) = true

abbrev pub measured_alike : Measured → Measured → Bool
measured_alike (Ohms x) (Ohms y) = eq x y
measured_alike (Ohms x) (Picofarads y) = false
measured_alike (Ohms x) (Code n) = false
measured_alike (Picofarads x) (Ohms y) = false
measured_alike (Picofarads x) (Picofarads y) = eq x y
measured_alike (Picofarads x) (Code n) = false
measured_alike (Code m) (Ohms y) = false
measured_alike (Code m) (Picofarads y) = false
measured_alike (Code m) (Code n) = m == n

abbrev pub catalogue_fit : Catalogue → Bool
catalogue_fit x = not (x.0 == 0)

abbrev pub catalogue_alike : Catalogue → Catalogue → Bool
catalogue_alike x y = x.0 == y.0
