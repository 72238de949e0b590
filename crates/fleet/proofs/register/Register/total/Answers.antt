use Rattle.std.proofs.Common.{◌+◌, ◌≤◌, map, take, refl, sym, ap, arith}
use Rattle.std.specs.Fn.{FnReturnsAt}
use Rattle.fleet.specs.Units.{unit_of, whole_capacity, registered_capacity}
use Rattle.fleet.proofs.Listing.{total_none, total_next, total_take}
use Rattle.fleet.proofs.register.Register.total.Goals as goal

returned : (g : _) (c : goal.After-share-sum g) → FnReturnsAt g.F.Fn c.args.share c.unit-item.result c.share-sum.result
returned g c = record { shown = _; shows = refl; says = record { met = c.share-sum.ensures } }

-- one unit more is within its capacity
held : (g : _) (c : goal.After-share-sum g) → c.loop-unit.sum + c.share-sum.result ≤ registered_capacity (map unit_of (take (c.loop-unit.unit-index + 1) c.registered-unit-items.result.now))
held g c =
    let more = total_next whole_capacity c.registered-unit-items.result.now c.loop-unit.unit-index c.unit-item.result c.loop-unit-test.true in
    let here = ap (λ r. r.capacity) c.unit-item.is in
    omega (arith, more, here, c.requires.held _ _ (returned g c), c.loop-unit.invariant.held)

pub loop-unit-init : goal.loop-unit-init
loop-unit-init g c = record { held = omega arith; value = λ counts says. sym (total_none counts) }

pub overflow_add-sum : goal.overflow_add-sum
overflow_add-sum g c =
    let self = c.args.self.now in
    let records = c.registered-unit-items.result.now in
    omega (arith, held g c, total_take whole_capacity records (c.loop-unit.unit-index + 1), ap registered_capacity c.registered-unit-items.ensures, self.capacity)

pub loop-unit-preserved : goal.loop-unit-preserved
loop-unit-preserved g c = record {
  held = held g c;
  value = λ counts says.
      let more = total_next counts c.registered-unit-items.result.now c.loop-unit.unit-index c.unit-item.result c.loop-unit-test.true in
      let here = ap (λ r. counts (unit_of r)) c.unit-item.is in
      omega (arith, more, here, says _ _ (returned g c), c.loop-unit.invariant.value counts says);
}
