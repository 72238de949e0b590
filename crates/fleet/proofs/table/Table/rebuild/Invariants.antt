use Rattle.std.proofs.Common.{map, take}
use Rattle.fleet.specs.Units.{unit_of}
use Rattle.fleet.proofs.Building.{Built}
use Rattle.fleet.proofs.table.Table.rebuild.Given as goal

abbrev pub invariant-loop-unit : goal.invariant-loop-unit
invariant-loop-unit g l = Built (g.R.Rounding.answer l.rule) (map unit_of (take l.unit-index l.units)) l.self.entries
