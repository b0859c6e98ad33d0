use Rattle.std.proofs.Common.{length, vec_items, ap, arith}
use Rattle.sheets.proofs.Pieces.{reads_rising}
use Rattle.sheets.proofs.load.load_nets.Goals as goal

-- a sheet that was read has no more rows than the table
pub net_tables-requires : goal.net_tables-requires
net_tables-requires c =
    let few = (reads_rising c.args.file c.args.bytes.now (vec_items c.in_ok-rows.rows) c.in_ok-rows.ensures).2 in
    omega (arith, few, ap length c.as_slice.ensures.value)
