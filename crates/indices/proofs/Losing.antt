-- Lost load: a place above the table, and the sum over the days. Assumes nothing.
use Rattle.std.proofs.Common.{◌≡◌, ℕ, ◌+◌, ◌-◌, ◌<◌, ◌≤◌, Bool, true, false, not, ltb, List, length, get_or, take, Some, None, sym, refl, ap, ◌∙◌}
use Rattle.std.proofs.lemmas.List.{get_or_past}
use Rattle.std.proofs.lemmas.List.Sums.{sum_by_more}
use Rattle.std.proofs.lemmas.Option.{none-some}
use Rattle.std.proofs.lemmas.Bool.{ltb-true}
use Rattle.rounding.specs.Table.{full, entry_before, Falling}
use Rattle.rounding.proofs.Amounts.{before_le}
use Rattle.rounding.proofs.Recursion.{before_at, entry_le}
use Rattle.fleet.specs.Ledger.{Ledger}
use Rattle.fleet.specs.Refusals.{refused_if}
use Rattle.fleet.specs.declared.refusal.Refusal.{Refusal}
use Rattle.fleet.specs.declared.refusal.Refusal.TheVariants.{AboveLimit}
use Rattle.indices.specs.Loads.{limit}
use Rattle.indices.specs.Days.{loss, lost_days, load_refusal, limit_refusal}
use Rattle.indices.proofs.Loading.{within_all, within_not}

-- a rule refuses only in its case
pub refused_case : (case : Bool) (refusal : Refusal) (number : ℕ) → refused_if case refusal ≡ Some number → case ≡ true
refused_case true refusal number h = refl
refused_case false refusal number h = absurd (none-some _ h)

-- above the table a load is never lost
pub before_past : (table : List ℕ) (k load : ℕ) → load ≤ k → length table ≤ k - load → entry_before table k load ≡ 0
before_past table k load inside past = before_at table k load inside ∙ get_or_past table (k - load) 0 past

-- a loss is at most certain
pub loss_le : (l : Ledger) → get_or l.table 0 0 ≡ full → Falling l.table → (load : ℕ) → loss l load ≤ full
loss_le l certain falling load = before_le l.table (entry_le l.table certain falling) _ load

pub lost_none : (l : Ledger) (loads : List ℕ) → lost_days l (take 0 loads) ≡ 0
unfolding lost_days
lost_none l loads = refl

pub lost_more : (l : Ledger) (loads : List ℕ) (day : ℕ) → day < length loads → lost_days l (take (day + 1) loads) ≡ lost_days l (take day loads) + loss l (get_or loads day 0)
unfolding lost_days
lost_more l loads day h = sum_by_more (loss l) loads day 0 h

-- all loads are within the limit, or one is not
pub limit_kept : (loads : List ℕ) → ((day : ℕ) → day < length loads → get_or loads day 0 ≤ limit) → limit_refusal loads ≡ None
limit_kept loads each = ap (λ b. refused_if (not b) AboveLimit) (within_all loads each)

pub limit_passed : (loads : List ℕ) (day : ℕ) → day < length loads → (number : ℕ) → load_refusal (get_or loads day 0) ≡ Some number → limit_refusal loads ≡ Some number
limit_passed loads day inside number h =
    let case = refused_case (ltb limit (get_or loads day 0)) AboveLimit number h in
    let over = within_not loads day inside (ltb-true limit (get_or loads day 0) case) in
    ap (λ b. refused_if (not b) AboveLimit) over ∙ sym (ap (λ b. refused_if b AboveLimit) case) ∙ h
