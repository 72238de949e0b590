-- One unit's standing: when a call is refused for it, and what a list totals with it changed. Assumes nothing.
use Rattle.std.proofs.Common.{◌≡◌, ℕ, ◌+◌, ◌<◌, Bool, true, false, List, map, length, get_or, set, sym, ap, ◌∙◌, arith}
use Rattle.std.proofs.lemmas.List.{map-set, length-map, get_or-map}
use Rattle.std.proofs.lemmas.List.Sums.{sum_by-set}
use Rattle.std.proofs.lemmas.Bool.{cond-false}
use Rattle.fleet.specs.States.{outage_of_last}
use Rattle.fleet.specs.Units.{GeneratingUnit, blank, unit_of, whole_capacity, service_outage, total, registered_capacity, greatest_outage}
use Rattle.fleet.specs.Standing.{unit_at, standing_as, with_standing}
use Rattle.fleet.specs.declared.record.UnitRecord.{UnitRecord}

-- a record that differs from the one at a place by its standing alone
pub recorded_standing : (records : List UnitRecord) (i : ℕ) (serving : Bool) (d new : UnitRecord) → i < length (map unit_of records) → unit_of new ≡ standing_as serving (unit_of (get_or records i d)) → map unit_of (set records i new) ≡ with_standing serving i (map unit_of records)
recorded_standing records i serving d new inside same =
    let long = length-map records unit_of in
    map-set unit_of records i new
    ∙ ap (λ u. set (map unit_of records) i u) (same ∙ ap (standing_as serving) (sym (get_or-map unit_of records i d blank (omega arith))))

pub total_standing : (share : GeneratingUnit → ℕ) (serving : Bool) (i : ℕ) (units : List GeneratingUnit) → i < length units → total share (with_standing serving i units) + share (unit_at i units) ≡ total share units + share (standing_as serving (unit_at i units))
unfolding total
total_standing share serving i units h = sum_by-set share units i (standing_as serving (unit_at i units)) blank h

pub capacity_standing : (serving : Bool) (i : ℕ) (units : List GeneratingUnit) → i < length units → registered_capacity (with_standing serving i units) ≡ registered_capacity units
capacity_standing serving i units h = omega (arith, total_standing whole_capacity serving i units h)

-- without a unit in service the greatest outage is less by what it counts for
pub outage_withdrawn : (i : ℕ) (units : List GeneratingUnit) → i < length units → greatest_outage (with_standing false i units) + service_outage (unit_at i units) ≡ greatest_outage units
outage_withdrawn i units h = omega (arith, total_standing service_outage false i units h)

-- a unit that is out counts for nothing, and once it is back for its last outage
pub outage_returned : (i : ℕ) (units : List GeneratingUnit) → i < length units → (unit_at i units).serving ≡ false → greatest_outage (with_standing true i units) ≡ greatest_outage units + outage_of_last (unit_at i units).states
outage_returned i units h out =
    let none = cond-false (unit_at i units).serving (outage_of_last (unit_at i units).states) 0 out in
    omega (arith, none, total_standing service_outage true i units h)
