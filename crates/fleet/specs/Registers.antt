-- The units that a register holds. Assumes nothing.
use Rattle.std.specs.Prelude.{List, map}
use Rattle.fleet.specs.Units.{GeneratingUnit, unit_of}
use Rattle.fleet.specs.declared.register.Register.{Register}

-- in order of arrival
abbrev pub units_of : Register → List GeneratingUnit
units_of r = map unit_of r.units.items
