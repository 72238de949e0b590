-- Loads grown by a percentage. Assumes nothing.
use Rattle.std.specs.Prelude.{ℕ, ◌*◌, min, cond, not, ◌&&◌, List, map, Option, nat_le, nat_lt}
use Rattle.rounding.specs.Rule.{up}
use Rattle.fleet.specs.Refusals.{refused_if}
use Rattle.fleet.specs.declared.refusal.Refusal.TheVariants.{Loads}
use Rattle.indices.specs.Loads.{limit, above_limit}
use Rattle.indices.specs.declared.loads.growth.Growth.{Growth}

-- a hundredth of load × percent, rounded up; what comes to more than the limit is marked, and a marked load stays so
abbrev pub grown : ℕ → ℕ → ℕ
grown percent load = cond (nat_lt limit load) above_limit (min (up (load * percent) 100) above_limit)

unfoldable pub grown_loads : ℕ → List ℕ → List ℕ
grown_loads percent loads = map (grown percent) loads

-- the percentage is not one of 1 to 300
abbrev pub percent_refusal : ℕ → Option ℕ
percent_refusal percent = refused_if (not (nat_le 1 percent && nat_le percent 300)) Loads

-- the loads that a value of the type means, by those that the model below it means
abbrev pub growth_loads : {L : Type 0} → (L → List ℕ) → Growth L → List ℕ
growth_loads loads g = grown_loads g.percent (loads g.below.now)
