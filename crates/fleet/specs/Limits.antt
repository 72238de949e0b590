-- The limit of the tolerance. Assumes nothing.
use Rattle.std.specs.Prelude.{ℕ, Option, nat_lt}
use Rattle.fleet.specs.Refusals.{refused_if}
use Rattle.fleet.specs.declared.refusal.Refusal.TheVariants.{Tolerance}

-- the tolerance would come to more than 1,000,000
abbrev pub tolerance_refusal : ℕ → Option ℕ
tolerance_refusal tolerance = refused_if (nat_lt 1000000 tolerance) Tolerance
