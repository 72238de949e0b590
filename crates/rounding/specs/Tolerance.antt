-- The tolerance of a table, in parts, after each way of rounding it anew. Assumes nothing.
use Rattle.std.specs.Prelude.{ℕ, ◌+◌, ◌-◌, ◌*◌}
use Rattle.rounding.specs.Rule.{up}
use Rattle.rounding.specs.Mixture.{million}

-- one rounding of the whole table adds one part
abbrev pub raised : ℕ → ℕ
raised tolerance = tolerance + 1

-- after a unit is taken out: weight is that of its first state, and the quotient is rounded up
abbrev pub removal_tolerance : ℕ → ℕ → ℕ
removal_tolerance weight tolerance = up (million * tolerance + weight) (2 * weight - million)
