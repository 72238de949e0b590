-- What intake makes of a ledger: the rows are added from the top, until one is refused or the sheet has a fault or ends. Assumes nothing.
use Rattle.std.specs.Prelude.{◌≡◌, ℕ, ◌+◌, List, [], ◌∷◌, Some, None, Ok, Err, Option, Result}
use Rattle.std.specs.Option.{option_map}
use Rattle.fleet.specs.Adding.{add_refusal, after_add}
use Rattle.fleet.specs.Ledger.{Ledger}
use Rattle.indices.specs.declared.fault.Fault.{Fault}
use Rattle.indices.specs.declared.unit_intake.Stopped.{Stopped}
use Rattle.indices.specs.Fault.{Report, report, fleet_layer}
use Rattle.indices.specs.Row.{Row, states}
use Rattle.indices.specs.Sheet.{Sheet, sheet}

-- the ledger after intake, how many units were added, and what is told of the fault
pub record Intake : Type 0 where
  pub ledger : Ledger
  pub added : ℕ
  pub fault : Option Report

-- a row is added as the unit that it describes
abbrev pub row_refusal : Ledger → Row → Option ℕ
row_refusal l row = add_refusal l row.id row.«cap» (states row)

abbrev pub after_row : (ℕ → ℕ → ℕ) → Ledger → Row → Ledger
after_row answer l row = after_add answer l row.id row.«cap» (states row)

-- a row that the fleet refuses is a fault of the third layer, at its line
abbrev pub refused_row : ℕ → ℕ → Report
refused_row line number = record { layer = fleet_layer; number = number; line = line; field = 0 }

-- the rows from here on, up to the first that the fleet refuses; where it takes all, the sheet's own fault comes, if any. n units were added before
unfoldable pub taken : (ℕ → ℕ → ℕ) → List Row → Option Report → Ledger → ℕ → Intake
taken answer [] fault l n = record { ledger = l; added = n; fault = fault }
taken answer (row ∷ rows) fault l n =
    elim (row_refusal l row) [ None ↦ taken answer rows fault (after_row answer l row) (n + 1) | Some number ↦ record { ledger = l; added = n; fault = Some (refused_row row.line number) } ]

-- intake of what a sheet says
abbrev pub taken_sheet : (ℕ → ℕ → ℕ) → Sheet → Ledger → ℕ → Intake
taken_sheet answer s l n = taken answer s.rows (option_map report s.fault) l n

abbrev pub intake : (ℕ → ℕ → ℕ) → List ℕ → Ledger → Intake
intake answer bytes l = taken_sheet answer (sheet bytes) l 0

-- what is told of a fault, if there is one
abbrev pub told : {T : Type 0} → Result T Fault → Option Report
told (Ok x) = None
told (Err fault) = Some (report fault)

-- intake left this ledger, added so many units and met this fault
pub record Took (i : Intake) (ledger : Ledger) (added : ℕ) (fault : Option Report) : Type 0 where
  pub ledger_is : ledger ≡ i.ledger
  pub added_is : added ≡ i.added
  pub fault_is : fault ≡ i.fault

-- the number added, or the fault with the number added before it
abbrev pub Answers : Intake → Result ℕ Stopped → Type 0
Answers i (Ok n) = (i.fault ≡ None) × (n ≡ i.added)
Answers i (Err s) = (i.fault ≡ Some (report s.fault)) × (s.added ≡ i.added)

-- the number added that an answer tells
abbrev pub added_by : Result ℕ Stopped → ℕ
added_by (Ok n) = n
added_by (Err s) = s.added
