-- How a list goes on: what its search goes by, and where it stands.
use Rattle.std.specs.Prelude.{◌≡◌, List, ℕ, Bool, length}
use Rattle.circuit.specs.Circuit.{Circuit}
use Rattle.pattern.specs.Drawn.{drawn}
use Rattle.promise.specs.Order.{Mark}
use Rattle.promise.specs.Search.{Rules}
use Rattle.promise.specs.Hits.{rules_of}
use Rattle.search.specs.declared.bookmark.Search.{Search}
use Rattle.search.specs.Held.{bookmark}
use Rattle.listing.specs.declared.lister.Lister.{Lister}

module _ {B S : Type 0} (means : B → Circuit) where
  -- the rules of its search
  abbrev pub searched : (S → Circuit → Circuit → List ℕ → Bool) → Lister B S → Rules
  searched keeps l = rules_of (drawn l.pattern.now) (means l.board.now) (keeps l.sieve.now (drawn l.pattern.now) (means l.board.now))

  -- where a search stands, for its pattern and its board
  abbrev pub mark_of : Lister B S → Search → Mark
  mark_of l q = bookmark (length (drawn l.pattern.now).nets) (length (means l.board.now).nets) q

-- nothing but the search is another
pub record OnlySearched {B S : Type 0} (a b : Lister B S) : Type 0 where
  pub pattern : b.pattern.now ≡ a.pattern.now
  pub board : b.board.now ≡ a.board.now
  pub sieve : b.sieve.now ≡ a.sieve.now
