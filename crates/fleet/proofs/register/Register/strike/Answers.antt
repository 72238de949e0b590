use Rattle.std.proofs.Common.{map, ap, ◌∙◌, arith}
use Rattle.fleet.specs.Units.{unit_of, whole_capacity, registered_capacity}
use Rattle.fleet.specs.Registers.{units_of}
use Rattle.fleet.proofs.Parts.{map_removed}
use Rattle.fleet.proofs.Striking.{total_struck}
use Rattle.fleet.proofs.register.Register.strike.Goals as goal

pub invariant_of-self : goal.invariant_of-self
invariant_of-self c =
    let self = c.args.self.now in
    let struck = ap (map unit_of) c.remove.ensures.items ∙ map_removed unit_of self.units.items c.args.place in
    record { capacity = omega (arith, ap registered_capacity struck, total_struck whole_capacity (units_of self) c.args.place c.requires, self.capacity) }

pub returns : goal.returns
returns c = ap (map unit_of) c.remove.ensures.items ∙ map_removed unit_of c.args.self.now.units.items c.args.place
