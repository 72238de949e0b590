-- Adding a unit: when it is refused, and what it makes of the ledger. Assumes nothing.
use Rattle.std.specs.Prelude.{ℕ, ◌+◌, not, ◌&&◌, List, [], ◌∷◌, ◌++◌, length, Option, nat_le, nat_lt}
use Rattle.rounding.specs.Tolerance.{raised}
use Rattle.rounding.specs.Adding.{added}
use Rattle.rounding.specs.declared.state.State.{State}
use Rattle.fleet.specs.Refusals.{first, refused_if, unless}
use Rattle.fleet.specs.States.{lawful}
use Rattle.fleet.specs.Units.{GeneratingUnit, new_unit, registered_capacity}
use Rattle.fleet.specs.LookUp.{registered}
use Rattle.fleet.specs.Ledger.{Ledger}
use Rattle.fleet.specs.Limits.{tolerance_refusal}
use Rattle.fleet.specs.declared.refusal.Refusal.TheVariants.{Identity, Capacity, States, Registered, Full, TotalCapacity}

-- the identity is not one of 1 to 65,535
abbrev pub identity_refusal : ℕ → Option ℕ
identity_refusal identity = refused_if (not (nat_le 1 identity && nat_le identity 65535)) Identity

-- the capacity is not one of 1 to 1,000
abbrev pub capacity_refusal : ℕ → Option ℕ
capacity_refusal capacity = refused_if (not (nat_le 1 capacity && nat_le capacity 1000)) Capacity

-- the states do not keep their rules
abbrev pub states_refusal : ℕ → List State → Option ℕ
states_refusal capacity states = refused_if (not (lawful capacity states)) States

-- the identity is registered
abbrev pub registered_refusal : List GeneratingUnit → ℕ → Option ℕ
registered_refusal units identity = refused_if (registered identity units) Registered

-- 64 units are registered
abbrev pub full_refusal : List GeneratingUnit → Option ℕ
full_refusal units = refused_if (nat_le 64 (length units)) Full

-- all registered units, in service or out, would come to more than 1,000 steps
abbrev pub total_refusal : List GeneratingUnit → ℕ → Option ℕ
total_refusal units capacity = refused_if (nat_lt 1000 (registered_capacity units + capacity)) TotalCapacity

-- what the unit itself breaks
abbrev pub unit_refusal : ℕ → ℕ → List State → Option ℕ
unit_refusal identity capacity states = first (identity_refusal identity) (first (capacity_refusal capacity) (states_refusal capacity states))

-- what the register has no room for
abbrev pub room_refusal : List GeneratingUnit → ℕ → ℕ → Option ℕ
room_refusal units identity capacity = first (registered_refusal units identity) (first (full_refusal units) (total_refusal units capacity))

abbrev pub add_refusal : Ledger → ℕ → ℕ → List State → Option ℕ
add_refusal l identity capacity states =
    first (unit_refusal identity capacity states)
    (first (room_refusal l.units identity capacity) (tolerance_refusal (raised l.tolerance)))

-- the ledger after the call, refused or not
abbrev pub after_add : (ℕ → ℕ → ℕ) → Ledger → ℕ → ℕ → List State → Ledger
after_add answer l identity capacity states =
    unless (add_refusal l identity capacity states) l (record {
      units = l.units ++ new_unit identity capacity states ∷ [];
      table = added answer states l.table;
      tolerance = raised l.tolerance;
    })
