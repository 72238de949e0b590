use Rattle.std.proofs.Common.{sym, ap, ◌∙◌, subst, arith}
use Rattle.rounding.specs.Table.{Zeros}
use Rattle.fleet.specs.Ledger.{open_table}
use Rattle.fleet.specs.Units.{service_outage, greatest_outage}
use Rattle.fleet.proofs.Listing.{total_none}
use Rattle.fleet.proofs.Opening.{open_zeros}
use Rattle.fleet.proofs.fleet.Fleet.open.Goals as goal

pub invariant_of-result : goal.invariant_of-result
invariant_of-result c =
    let none = ap greatest_outage c.empty.ensures ∙ total_none service_outage in
    record { zeros = subst (Zeros _) (sym c.open.ensures) (subst (λ m. Zeros m open_table) (sym none) open_zeros); held = omega arith }
