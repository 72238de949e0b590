-- The ledger that a fleet stands for. Assumes nothing.
use Rattle.fleet.specs.Ledger.{Ledger}
use Rattle.fleet.specs.Registers.{units_of}
use Rattle.fleet.specs.declared.fleet.Fleet.{Fleet}

abbrev pub ledger_of : Fleet → Ledger
ledger_of f = record { units = units_of f.register; table = f.table.entries; tolerance = f.tolerance }
