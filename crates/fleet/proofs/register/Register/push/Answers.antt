use Rattle.std.proofs.Common.{map, ap, ◌∙◌, arith}
use Rattle.std.proofs.lemmas.List.{map_push}
use Rattle.fleet.specs.Units.{unit_of, whole_capacity, registered_capacity}
use Rattle.fleet.specs.Registers.{units_of}
use Rattle.fleet.proofs.Listing.{total_push}
use Rattle.fleet.proofs.register.Register.push.Goals as goal

pub invariant_of-self : goal.invariant_of-self
invariant_of-self c =
    let self = c.args.self.now in
    let pushed = ap (map unit_of) c.push.ensures.items ∙ map_push unit_of self.units.items c.args.unit in
    record { capacity = omega (arith, ap registered_capacity pushed, total_push whole_capacity (units_of self) (unit_of c.args.unit), c.requires.capacity) }
