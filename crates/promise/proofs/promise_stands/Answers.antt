use Rattle.promise.proofs.Lawful.{promised}
use Rattle.promise.proofs.promise_stands.Goals as goal

pub returns : goal.returns
returns c p b sp sb some keeps fit = promised p b sp sb keeps some fit
