use Rattle.fleet.specs.Fleets.{ledger_of}
use Rattle.indices.specs.Sheet.{sheet}
use Rattle.indices.proofs.Taking.{growth}
use Rattle.indices.proofs.unit_intake.intake.Goals as goal

pub returns-in-Ok-clause-growth : goal.returns-in-Ok-clause-growth
returns-in-Ok-clause-growth g c = growth (g.R.Rounding.answer c.args.rule.now) (sheet c.args.sheet.now) (ledger_of c.args.fleet.now) _ _ _ c.in-Ok.ensures

pub returns-in-Err-clause-growth : goal.returns-in-Err-clause-growth
returns-in-Err-clause-growth g c = growth (g.R.Rounding.answer c.args.rule.now) (sheet c.args.sheet.now) (ledger_of c.args.fleet.now) _ _ _ c.in-Err.ensures
