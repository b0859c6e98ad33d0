use Rattle.std.proofs.Common.{◌+◌, [], ◌∷◌, ◌++◌, map, sym, ap, ◌∙◌, arith}
use Rattle.std.proofs.lemmas.List.FromFn.{map-range_with_len_more}
use Rattle.std.specs.List.{range_with_len}
use Rattle.sheets.specs.Nets.{front}
use Rattle.sheets.proofs.Pieces.{front_rest, front_within, front_more}
use Rattle.sheets.proofs.nets.net_ends.Goals as goal

pub overflow_add-at : goal.overflow_add-at
overflow_add-at c = omega (arith, front_rest c.loop-net.net c.args.rows.now c.loop-net.at c.rows_up_to-at.result c.loop-net.invariant.front c.rows_up_to-at.ensures, front_within c.loop-net.net c.args.rows.now)

pub overflow_cast-at : goal.overflow_cast-at
overflow_cast-at c = omega (arith, front_rest c.loop-net.net c.args.rows.now c.loop-net.at c.rows_up_to-at.result c.loop-net.invariant.front c.rows_up_to-at.ensures, front_within c.loop-net.net c.args.rows.now)

pub loop-net-preserved : goal.loop-net-preserved
loop-net-preserved c =
    let rows = c.args.rows.now in
    let f = c.loop-net.net in
    let end = front_rest f rows c.loop-net.at c.rows_up_to-at.result c.loop-net.invariant.front c.rows_up_to-at.ensures in
    let inside = front_within f rows in
    let more = front_more f (f + 1) rows (omega arith) in
    record {
      items =
          c.in_ok-push.ensures.items
          ∙ ap (λ es. es ++ (c.loop-net.at + c.rows_up_to-at.result) ∷ []) c.loop-net.invariant.items
          ∙ ap (λ e. map (λ k. front k rows) (range_with_len 0 f) ++ e ∷ []) (sym end)
          ∙ sym (map-range_with_len_more (λ k. front k rows) 0 f f (omega arith));
      within = omega arith;
      front = omega arith;
    }
