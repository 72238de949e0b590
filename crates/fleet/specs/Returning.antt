-- Returning a unit to service: when it is refused, and what it makes of the ledger. Assumes nothing.
use Rattle.std.specs.Prelude.{ℕ, true, false, Option}
use Rattle.rounding.specs.Tolerance.{raised}
use Rattle.rounding.specs.Adding.{added}
use Rattle.fleet.specs.Refusals.{first, unless}
use Rattle.fleet.specs.Ledger.{Ledger}
use Rattle.fleet.specs.Limits.{tolerance_refusal}
use Rattle.fleet.specs.Standing.{place_with, unit_with, absent_refusal, standing_refusal, with_standing}

abbrev pub return_refusal : Ledger → ℕ → Option ℕ
return_refusal l identity =
    first (absent_refusal l.units identity)
    (first (standing_refusal false (unit_with identity l.units)) (tolerance_refusal (raised l.tolerance)))

-- the ledger after the call, refused or not
abbrev pub after_return : (ℕ → ℕ → ℕ) → Ledger → ℕ → Ledger
after_return answer l identity =
    unless (return_refusal l identity) l (record {
      units = with_standing true (place_with identity l.units) l.units;
      table = added answer (unit_with identity l.units).states l.table;
      tolerance = raised l.tolerance;
    })
