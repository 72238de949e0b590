-- Building a table anew from the units in service. Assumes nothing.
use Rattle.std.specs.Prelude.{ℕ, List, length, fold}
use Rattle.rounding.specs.Adding.{added}
use Rattle.fleet.specs.Units.{GeneratingUnit, in_service}
use Rattle.fleet.specs.Ledger.{Ledger, open_table}

-- an open table with these units added in their order
unfoldable pub table_of : (ℕ → ℕ → ℕ) → List GeneratingUnit → List ℕ
table_of answer units = fold (λ table u. added answer u.states table) open_table units

-- the ledger after the call, which is never refused
abbrev pub after_rebuild : (ℕ → ℕ → ℕ) → Ledger → Ledger
after_rebuild answer l = record {
  units = l.units;
  table = table_of answer (in_service l.units);
  tolerance = length (in_service l.units);
}
