-- Loads as a list that the caller holds. Assumes nothing.
use Rattle.std.specs.Prelude.{ℕ, not, ◌&&◌, List, length, Option}
use Rattle.fleet.specs.Refusals.{refused_if}
use Rattle.fleet.specs.declared.refusal.Refusal.TheVariants.{Loads}
use Rattle.indices.specs.Loads.{day_count, all_within_limit, as_loads}
use Rattle.indices.specs.declared.loads.peaks.Peaks.{Peaks}

-- there are no loads or too many, or one is above the limit
abbrev pub peaks_refusal : List ℕ → Option ℕ
peaks_refusal loads = refused_if (not (day_count (length loads) && all_within_limit loads)) Loads

-- the loads that a value of the type means
abbrev pub peaks_loads : Peaks → List ℕ
peaks_loads p = as_loads p.loads.now
