-- What a fleet stands for: its units in order of arrival, its table and its tolerance. Assumes nothing.
use Rattle.std.specs.Prelude.{ℕ, List, [], ◌∷◌, replicate}
use Rattle.rounding.specs.Table.{full}
use Rattle.fleet.specs.Units.{GeneratingUnit}

pub record Ledger : Type 0 where
  pub units : List GeneratingUnit
  pub table : List ℕ
  pub tolerance : ℕ

-- with no units nothing is out: entry 0 is certain, and entries 1 to 1,000 are 0
abbrev pub open_table : List ℕ
open_table = full ∷ replicate 1000 0

abbrev pub opened : Ledger
opened = record { units = []; table = open_table; tolerance = 0 }
