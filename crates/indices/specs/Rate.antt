-- The forced outage rate of a unit, from hours. Assumes nothing.
use Rattle.std.specs.Prelude.{ℕ, ◌+◌, ◌*◌, ◌||◌, Option, ◌==◌, nat_lt}
use Rattle.rounding.specs.Rule.{up}
use Rattle.rounding.specs.Mixture.{million}
use Rattle.fleet.specs.Refusals.{refused_if}
use Rattle.fleet.specs.declared.refusal.Refusal.TheVariants.{Hours}

-- the share of the forced hours in all hours, in millionths, rounded up
abbrev pub forced_outage_rate : ℕ → ℕ → ℕ
forced_outage_rate forced service = up (forced * million) (forced + service)

-- there are no hours, or more than 1,000,000 of a kind
abbrev pub hours_refusal : ℕ → ℕ → Option ℕ
hours_refusal forced service = refused_if (forced + service == 0 || (nat_lt 1000000 forced || nat_lt 1000000 service)) Hours
