-- The promise, of any hits that the tries are lawful for.
use Rattle.std.proofs.Common.{ℕ, List}
use Rattle.promise.specs.Search.{Rules}
use Rattle.promise.specs.Promise.{Lawful, Promise}
use Rattle.promise.proofs.Runs as runs
use Rattle.promise.proofs.Bound as bound
use Rattle.promise.proofs.One as single

pub promise : (R : Rules) (Hit : List ℕ → Type 0) → Lawful R Hit → Promise R Hit
promise R Hit L =
    record {
      right = runs.right R Hit L;
      refuses = λ k h t r. runs.refuses R k;
      finishes = λ k h t r. runs.finishes R k;
      stays = λ k h t r. runs.stays R k;
      complete = runs.complete R Hit L;
      moves = runs.moves R Hit L;
      stands = λ k h t r. runs.stands R r;
      one = single.one R;
      ends = bound.ends R L.some;
    }
