-- What a pattern means.
use Rattle.circuit.specs.Circuit.{Circuit}
use Rattle.tables.specs.Tables.{circuit_of}
use Rattle.pattern.specs.declared.pattern.Pattern.{Pattern}

abbrev pub drawn : Pattern → Circuit
drawn p = circuit_of p.classes.items p.ends.items p.joins.items
