-- One unit of a list taken out: what the list totals then. Assumes nothing.
use Rattle.std.proofs.Common.{◌≡◌, ℕ, ◌+◌, ◌<◌, false, List, length, arith}
use Rattle.std.specs.List.{remove}
use Rattle.std.proofs.lemmas.List.Sums.{sum_by-remove}
use Rattle.std.proofs.lemmas.Bool.{cond-false}
use Rattle.fleet.specs.States.{outage_of_last}
use Rattle.fleet.specs.Units.{GeneratingUnit, blank, service_outage, total, greatest_outage}
use Rattle.fleet.specs.Standing.{unit_at}

pub total_struck : (share : GeneratingUnit → ℕ) (units : List GeneratingUnit) (i : ℕ) → i < length units → total share (remove units i) + share (unit_at i units) ≡ total share units
unfolding total
total_struck share units i h = sum_by-remove share units i blank h

-- a unit that is out counts for nothing
pub outage_struck : (units : List GeneratingUnit) (i : ℕ) → i < length units → (unit_at i units).serving ≡ false → greatest_outage (remove units i) ≡ greatest_outage units
outage_struck units i h out =
    let none = cond-false (unit_at i units).serving (outage_of_last (unit_at i units).states) 0 out in
    omega (arith, none, total_struck service_outage units i h)
