-- Loads that fall along a straight line. Assumes nothing.
use Rattle.std.specs.Prelude.{ℕ, ◌-◌, ◌*◌, ◌/◌, cond, not, ◌&&◌, List, map, Option, ◌==◌, nat_le}
use Rattle.std.specs.List.{range_with_len}
use Rattle.fleet.specs.Refusals.{refused_if}
use Rattle.fleet.specs.declared.refusal.Refusal.TheVariants.{Loads}
use Rattle.indices.specs.Loads.{limit, day_count, as_loads}
use Rattle.indices.specs.declared.loads.line.Line.{Line}

-- the load of a day: it falls from high on the first to low on the last, and what it has fallen by is rounded down; a single day has high
abbrev pub line_load : ℕ → ℕ → ℕ → ℕ → ℕ
line_load days high low day = cond (days == 1) high (high - (day * (high - low)) / (days - 1))

unfoldable pub line_loads : ℕ → ℕ → ℕ → List ℕ
line_loads days high low = map (line_load days high low) (range_with_len 0 days)

-- the number of days is wrong, low is above high, or high is above the limit
abbrev pub line_refusal : ℕ → ℕ → ℕ → Option ℕ
line_refusal days high low = refused_if (not (day_count days && (nat_le low high && nat_le high limit))) Loads

-- the loads that a value of the type means
abbrev pub loads_of_line : Line → List ℕ
loads_of_line line = as_loads (line_loads line.days line.high line.low)
