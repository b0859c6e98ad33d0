-- Laws of refusals.
use Rattle.std.proofs.Common.{rules}
use Rattle.circuit.specs.Refusals.{NumbersDiffer}

-- no two reasons have one number
pub number_tells : NumbersDiffer
number_tells = search rules
