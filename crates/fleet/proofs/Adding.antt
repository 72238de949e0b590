-- What an accepted unit gives, and the ledger with it. Assumes nothing.
use Rattle.std.proofs.Common.{◌≡◌, ℕ, ◌+◌, ◌≤◌, List, [], ◌∷◌, ◌++◌, length, None, sym, ap, ◌∙◌}
use Rattle.std.proofs.lemmas.List.FromFn.{length-map-range_with_len}
use Rattle.std.proofs.lemmas.Bool.{ltb-false}
use Rattle.rounding.specs.Tolerance.{raised}
use Rattle.rounding.specs.Adding.{added}
use Rattle.rounding.specs.declared.state.State.{State}
use Rattle.fleet.specs.States.{outage_of_last}
use Rattle.fleet.specs.Units.{GeneratingUnit, new_unit, service_outage, greatest_outage}
use Rattle.fleet.specs.Ledger.{Ledger}
use Rattle.fleet.specs.Limits.{tolerance_refusal}
use Rattle.fleet.specs.Adding.{add_refusal, after_add}
use Rattle.fleet.specs.declared.refusal.Refusal.TheVariants.{Tolerance}
use Rattle.fleet.proofs.Refusing.{accepted, unless_accepted}
use Rattle.fleet.proofs.Listing.{total_push}

pub accepted_tolerance : (tolerance : ℕ) → tolerance_refusal tolerance ≡ None → tolerance ≤ 1000000
accepted_tolerance tolerance h = ltb-false 1000000 tolerance (accepted _ Tolerance h)

-- a unit more leaves a table as long as it was
pub length_added : (answer : ℕ → ℕ → ℕ) (states : List State) (old : List ℕ) → length (added answer states old) ≡ length old
unfolding added
length_added answer states old = length-map-range_with_len _ 0 (length old)

-- the greatest outage rises by the last outage of the new unit
pub added_outage : (units new : List GeneratingUnit) (identity capacity : ℕ) (states : List State) → new ≡ units ++ new_unit identity capacity states ∷ [] → greatest_outage new ≡ greatest_outage units + outage_of_last states
added_outage units new identity capacity states h = ap greatest_outage h ∙ total_push service_outage units (new_unit identity capacity states)

pub after_accepted : (answer : ℕ → ℕ → ℕ) (l new : Ledger) (identity capacity : ℕ) (states : List State) → add_refusal l identity capacity states ≡ None → new.units ≡ l.units ++ new_unit identity capacity states ∷ [] → new.table ≡ added answer states l.table → new.tolerance ≡ raised l.tolerance → new ≡ after_add answer l identity capacity states
after_accepted answer l new identity capacity states h units table tolerance =
    let made : new ≡ record { units = l.units ++ new_unit identity capacity states ∷ []; table = added answer states l.table; tolerance = raised l.tolerance } = λ i. record { units = units i; table = table i; tolerance = tolerance i } in
    made ∙ sym (unless_accepted _ _ _ h)
