-- What an accepted removal gives, and the ledger after it. Assumes nothing.
use Rattle.std.proofs.Common.{◌≡◌, ℕ, zero, suc, ◌+◌, ◌<◌, ◌≤◌, false, List, [], ◌∷◌, length, None, sym, refl, ap, ◌∙◌, add-one}
use Rattle.std.proofs.lemmas.List.{length-append}
use Rattle.std.proofs.lemmas.Bool.{leb-false}
use Rattle.rounding.specs.Tolerance.{removal_tolerance}
use Rattle.rounding.specs.Removing.{entries_without, without}
use Rattle.rounding.specs.declared.state.State.{State}
use Rattle.fleet.specs.Refusals.{first}
use Rattle.fleet.specs.Units.{GeneratingUnit, greatest_outage}
use Rattle.fleet.specs.Ledger.{Ledger}
use Rattle.fleet.specs.Limits.{tolerance_refusal}
use Rattle.fleet.specs.Withdrawing.{weight_refusal, withdrawn_tolerance, units_withdrawn, withdraw_refusal, after_withdraw}
use Rattle.fleet.specs.Standing.{place_with, unit_at, unit_with, with_standing}
use Rattle.fleet.specs.declared.refusal.Refusal.TheVariants.{FirstWeight}
use Rattle.fleet.proofs.Refusing.{accepted, both_accepted, unless_accepted}
use Rattle.fleet.proofs.Adding.{accepted_tolerance}

pub accepted_removal : (weight tolerance : ℕ) → first (weight_refusal weight) (tolerance_refusal (removal_tolerance weight tolerance)) ≡ None → (500000 < weight) × (removal_tolerance weight tolerance ≤ 1000000)
accepted_removal weight tolerance h =
    let both = both_accepted (weight_refusal weight) _ h in
    (leb-false weight 500000 (accepted _ FirstWeight both.0), accepted_tolerance _ both.1)

-- a unit less leaves a table as long as it was
length_entries : (answer : ℕ → ℕ → ℕ) (first : State) (rest : List State) (greatest : ℕ) (old : List ℕ) (n : ℕ) → length (entries_without answer first rest greatest old n) ≡ n
unfolding entries_without
length_entries answer first rest greatest old zero = refl
length_entries answer first rest greatest old (suc k) =
    length-append (entries_without answer first rest greatest old k) _ ∙ ap (λ n. n + 1) (length_entries answer first rest greatest old k) ∙ add-one k

pub length_without : (answer : ℕ → ℕ → ℕ) (states : List State) (greatest : ℕ) (old : List ℕ) → length (without answer states greatest old) ≡ length old
unfolding without
length_without answer [] greatest old = refl
length_without answer (first ∷ rest) greatest old = length_entries answer first rest greatest old (length old)

-- the ledger without the unit at a place
pub after_accepted : (answer : ℕ → ℕ → ℕ) (l new : Ledger) (identity place greatest : ℕ) (u : GeneratingUnit) → withdraw_refusal l identity ≡ None → place_with identity l.units ≡ place → unit_at place l.units ≡ u → greatest ≡ greatest_outage (with_standing false place l.units) → new.units ≡ with_standing false place l.units → new.table ≡ without answer u.states greatest l.table → new.tolerance ≡ withdrawn_tolerance u.states l.tolerance → new ≡ after_withdraw answer l identity
after_accepted answer l new identity place greatest u none here there most units table tolerance =
    let one : u ≡ unit_at (place_with identity l.units) l.units = sym there ∙ ap (λ i. unit_at i l.units) (sym here) in
    let out = ap (λ i. with_standing false i l.units) (sym here) in
    let made : new ≡ record { units = units_withdrawn l.units identity; table = without answer (unit_with identity l.units).states (greatest_outage (units_withdrawn l.units identity)) l.table; tolerance = withdrawn_tolerance (unit_with identity l.units).states l.tolerance } =
    λ i. record {
      units = (units ∙ out) i;
      table = (table ∙ ap (λ m. without answer u.states m l.table) (most ∙ ap greatest_outage out) ∙ ap (λ v. without answer v.states (greatest_outage (units_withdrawn l.units identity)) l.table) one) i;
      tolerance = (tolerance ∙ ap (λ v. withdrawn_tolerance v.states l.tolerance) one) i;
    }
    in
    made ∙ sym (unless_accepted _ _ _ none)
