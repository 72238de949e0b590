-- Withdrawing a unit: when it is refused, and what it makes of the ledger. Assumes nothing.
use Rattle.std.specs.Prelude.{ℕ, true, false, List, Option, nat_le}
use Rattle.rounding.specs.Tolerance.{removal_tolerance}
use Rattle.rounding.specs.Removing.{first_weight, without}
use Rattle.rounding.specs.declared.state.State.{State}
use Rattle.fleet.specs.Refusals.{first, refused_if, unless}
use Rattle.fleet.specs.Units.{GeneratingUnit, greatest_outage}
use Rattle.fleet.specs.Ledger.{Ledger}
use Rattle.fleet.specs.Limits.{tolerance_refusal}
use Rattle.fleet.specs.Standing.{place_with, unit_with, absent_refusal, standing_refusal, with_standing}
use Rattle.fleet.specs.declared.refusal.Refusal.TheVariants.{FirstWeight}

-- the weight of the first state is at most 500,000
abbrev pub weight_refusal : ℕ → Option ℕ
weight_refusal weight = refused_if (nat_le weight 500000) FirstWeight

-- the tolerance without a unit of these states
abbrev pub withdrawn_tolerance : List State → ℕ → ℕ
withdrawn_tolerance states tolerance = removal_tolerance (first_weight states) tolerance

-- what a unit of these states cannot be taken out of the table for
abbrev pub removal_refusal : List State → ℕ → Option ℕ
removal_refusal states tolerance = first (weight_refusal (first_weight states)) (tolerance_refusal (withdrawn_tolerance states tolerance))

abbrev pub withdraw_refusal : Ledger → ℕ → Option ℕ
withdraw_refusal l identity =
    first (absent_refusal l.units identity)
    (first (standing_refusal true (unit_with identity l.units)) (removal_refusal (unit_with identity l.units).states l.tolerance))

-- the units with that one out
abbrev pub units_withdrawn : List GeneratingUnit → ℕ → List GeneratingUnit
units_withdrawn units identity = with_standing false (place_with identity units) units

-- the ledger after the call, refused or not
abbrev pub after_withdraw : (ℕ → ℕ → ℕ) → Ledger → ℕ → Ledger
after_withdraw answer l identity =
    unless (withdraw_refusal l identity) l (record {
      units = units_withdrawn l.units identity;
      table = without answer (unit_with identity l.units).states (greatest_outage (units_withdrawn l.units identity)) l.table;
      tolerance = withdrawn_tolerance (unit_with identity l.units).states l.tolerance;
    })
