-- Retiring a unit: when it is refused, and what it makes of the ledger. Assumes nothing.
use Rattle.std.specs.Prelude.{ℕ, false, Option}
use Rattle.std.specs.List.{remove}
use Rattle.fleet.specs.Refusals.{first, unless}
use Rattle.fleet.specs.Ledger.{Ledger}
use Rattle.fleet.specs.Standing.{place_with, unit_with, absent_refusal, standing_refusal}

abbrev pub retire_refusal : Ledger → ℕ → Option ℕ
retire_refusal l identity = first (absent_refusal l.units identity) (standing_refusal false (unit_with identity l.units))

-- the ledger after the call, refused or not: later units move up one, and nothing else changes
abbrev pub after_retire : Ledger → ℕ → Ledger
after_retire l identity =
    unless (retire_refusal l identity) l (record {
      units = remove l.units (place_with identity l.units);
      table = l.table;
      tolerance = l.tolerance;
    })
