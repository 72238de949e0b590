-- The expected days of lost load. Assumes nothing.
use Rattle.std.specs.Prelude.{◌≡◌, ℕ, ◌+◌, ◌*◌, not, List, length, sum_by, Option, nat_lt}
use Rattle.rounding.specs.Table.{entry_before}
use Rattle.fleet.specs.Refusals.{refused_if}
use Rattle.fleet.specs.Units.{capacity}
use Rattle.fleet.specs.Ledger.{Ledger}
use Rattle.fleet.specs.declared.refusal.Refusal.TheVariants.{AboveLimit}
use Rattle.indices.specs.Loads.{limit, all_within_limit}

-- how likely it is that a load is lost, in parts: the entry at place C − load + 1, where C is the capacity in service; below place 0 it is certain, and above the table it is 0
abbrev pub loss : Ledger → ℕ → ℕ
loss l load = entry_before l.table (capacity l.units + 1) load

-- the sum over the days
unfoldable pub lost_days : Ledger → List ℕ → ℕ
lost_days l loads = sum_by (loss l) loads

-- the load of a day is above the limit
abbrev pub load_refusal : ℕ → Option ℕ
load_refusal load = refused_if (nat_lt limit load) AboveLimit

-- that of some day is
abbrev pub limit_refusal : List ℕ → Option ℕ
limit_refusal loads = refused_if (not (all_within_limit loads)) AboveLimit

-- the sum together with its bound: the tolerance once for each day
pub record Days (l : Ledger) (loads : List ℕ) (answer : ℕ × ℕ) : Type 0 where
  pub sum : answer.0 ≡ lost_days l loads
  pub bound : answer.1 ≡ length loads * l.tolerance
