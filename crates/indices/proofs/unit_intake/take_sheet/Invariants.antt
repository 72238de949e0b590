use Rattle.std.proofs.Common.{length}
use Rattle.fleet.specs.Fleets.{ledger_of}
use Rattle.indices.specs.Intake.{intake}
use Rattle.indices.proofs.Taking.{Going}
use Rattle.indices.proofs.unit_intake.take_sheet.Given as goal

abbrev pub invariant-loop-row : goal.invariant-loop-row
invariant-loop-row g l = Going (g.R.Rounding.answer l.rule) (intake (g.R.Rounding.answer l.rule) l.sheet (ledger_of l.initial.fleet)) l.initial.rows l.rows (ledger_of l.fleet) l.added

abbrev pub decreases-loop-row : goal.decreases-loop-row
decreases-loop-row g l = length l.rows.reader.rest.now
