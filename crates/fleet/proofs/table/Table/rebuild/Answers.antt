use Rattle.std.proofs.Common.{◌≤◌, map, length, subst, rules}
use Rattle.std.proofs.lemmas.List.{take_all}
use Rattle.rounding.specs.Table.{Zeros}
use Rattle.fleet.specs.Units.{unit_of, greatest_outage}
use Rattle.fleet.proofs.Building.{built_none, built_more}
use Rattle.fleet.proofs.table.Table.rebuild.Goals as goal

pub loop-unit-init : goal.loop-unit-init
loop-unit-init g c = built_none _ c.open.result.entries c.open.ensures

pub loop-unit-preserved : goal.loop-unit-preserved
loop-unit-preserved g c =
    let told = c.add_if_serving.ensures in
    built_more _ c.args.units.now c.loop-unit.unit-index c.unit-item.result c.unit-item.result c.loop-unit.self.entries _ c.loop-unit-test.true c.unit-item.is c.loop-unit.invariant told.entries told.zeros

pub returns-clause-zeros : goal.returns-clause-zeros
returns-clause-zeros g c =
    let units = c.args.units.now in
    let all : length units ≤ c.loop-unit.unit-index = search rules in
    subst (λ us. Zeros (greatest_outage (map unit_of us)) c.loop-unit.self.entries) (take_all c.loop-unit.unit-index units all) c.loop-unit.invariant.zeros
