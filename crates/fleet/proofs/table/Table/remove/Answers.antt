use Rattle.std.proofs.Common.{sym, ap, ◌∙◌, subst}
use Rattle.rounding.specs.Mixture.{weights}
use Rattle.rounding.specs.Removing.{Starting}
use Rattle.fleet.proofs.Lawful.{ruled}
use Rattle.fleet.proofs.table.Table.remove.Goals as goal

pub remove-requires-clause-shares : goal.remove-requires-clause-shares
remove-requires-clause-shares g c = ap weights c.states.ensures ∙ (ruled _ _ c.copied-unit.result.ruled).shares

pub remove-requires-clause-starting : goal.remove-requires-clause-starting
remove-requires-clause-starting g c = subst Starting (sym c.states.ensures) (ruled _ _ c.copied-unit.result.ruled).starting
