-- The circuit that three tables draw.
use Rattle.circuit.specs.Circuit.{Circuit}
use Rattle.tables.specs.Tables.{circuit_of}
use Rattle.tables.specs.declared.lists.Tables.{Tables}

abbrev pub drawn_in : Tables → Circuit
drawn_in t = circuit_of t.classes.now t.ends.now t.joins.now
