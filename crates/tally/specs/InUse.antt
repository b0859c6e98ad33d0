-- The entries of a tally that are in use.
use Rattle.std.specs.Prelude.{List, take}
use Rattle.tally.specs.declared.entry.Entry.{Entry}
use Rattle.tally.specs.declared.table.Tally.{Tally}

abbrev pub in_use : {K : Type 0} → Tally K → List (Entry K)
in_use t = take t.len t.entries.now
