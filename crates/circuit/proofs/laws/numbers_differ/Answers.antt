use Rattle.circuit.proofs.RefusalsLaws.{number_tells}
use Rattle.circuit.proofs.laws.numbers_differ.Goals as goal

pub returns : goal.returns
returns c = number_tells
