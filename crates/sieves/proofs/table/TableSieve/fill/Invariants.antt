use Rattle.std.proofs.Common.{◌≡◌, ℕ, ◌<◌, false, [], length, get_or}
use Rattle.pattern.specs.Drawn.{drawn}
use Rattle.sieves.specs.Counts.{have_same_counts}
use Rattle.sieves.proofs.table.TableSieve.fill.Given as goal

abbrev pub invariant-loop-place : goal.invariant-loop-place
invariant-loop-place g l =
    ((i f : ℕ) → i < l.place → f < 4096 → get_or (get_or l.row-items i []) f false ≡ have_same_counts (drawn l.pattern) i (g.B.Board.means l.board) f)
    × ((i : ℕ) → i < 16 → length (get_or l.row-items i []) ≡ 4096)
    × (length l.row-items ≡ 16)

abbrev pub invariant-loop-net : goal.invariant-loop-net
invariant-loop-net g l =
    ((f : ℕ) → f < l.net → get_or l.row f false ≡ have_same_counts (drawn l.pattern) l.place (g.B.Board.means l.board) f)
    × (length l.row ≡ 4096)
