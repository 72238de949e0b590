-- Generating units as a reader of the register has them. Assumes nothing.
use Rattle.std.specs.Prelude.{ℕ, Bool, true, false, cond, List, [], sum_by, filter}
use Rattle.rounding.specs.declared.state.State.{State}
use Rattle.fleet.specs.States.{outage_of_last}
use Rattle.fleet.specs.declared.record.UnitRecord.{UnitRecord}

-- a unit, with its states in order and its standing: in service or out
pub record GeneratingUnit : Type 0 where
  pub identity : ℕ
  pub capacity : ℕ
  pub states : List State
  pub serving : Bool

-- what a place without a unit reads as
abbrev pub blank : GeneratingUnit
blank = record { identity = 0; capacity = 0; states = []; serving = false }

-- the unit that a record of the register holds
abbrev pub unit_of : UnitRecord → GeneratingUnit
unit_of r = record { identity = r.identity; capacity = r.capacity; states = r.states.items; serving = r.serving }

-- a unit that is added is in service
abbrev pub new_unit : ℕ → ℕ → List State → GeneratingUnit
new_unit identity capacity states = record { identity = identity; capacity = capacity; states = states; serving = true }

-- the units in service, in their order
abbrev pub in_service : List GeneratingUnit → List GeneratingUnit
in_service units = filter (λ u. u.serving) units

-- what a unit counts for in the capacity of all registered units
abbrev pub whole_capacity : GeneratingUnit → ℕ
whole_capacity u = u.capacity

-- in the capacity of the units in service
abbrev pub service_capacity : GeneratingUnit → ℕ
service_capacity u = cond u.serving u.capacity 0

-- in the greatest possible outage of the units in service
abbrev pub service_outage : GeneratingUnit → ℕ
service_outage u = cond u.serving (outage_of_last u.states) 0

-- the sum of what the units count for
unfoldable pub total : (GeneratingUnit → ℕ) → List GeneratingUnit → ℕ
total share units = sum_by share units

-- the capacity of all registered units
abbrev pub registered_capacity : List GeneratingUnit → ℕ
registered_capacity = total whole_capacity

-- the capacity C of the units in service
abbrev pub capacity : List GeneratingUnit → ℕ
capacity = total service_capacity

-- the greatest possible outage M of the units in service
abbrev pub greatest_outage : List GeneratingUnit → ℕ
greatest_outage = total service_outage
