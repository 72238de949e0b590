use Rattle.std.proofs.Common.{map, ap, arith}
use Rattle.fleet.specs.Units.{unit_of, whole_capacity, registered_capacity}
use Rattle.fleet.proofs.Listing.{total_none}
use Rattle.fleet.proofs.register.Register.empty.Goals as goal

pub invariant_of-result : goal.invariant_of-result
invariant_of-result c = record { capacity = omega (arith, ap (λ items. registered_capacity (map unit_of items)) c.new.ensures, total_none whole_capacity) }
