use Rattle.std.proofs.Common.{sym, ap, ◌∙◌, subst}
use Rattle.rounding.specs.Mixture.{weights, Outages}
use Rattle.fleet.specs.States.{outage_of_last}
use Rattle.fleet.proofs.Lawful.{ruled}
use Rattle.fleet.proofs.table.Table.add.Goals as goal

pub add-requires-clause-shares : goal.add-requires-clause-shares
add-requires-clause-shares g c = ap weights c.states.ensures ∙ (ruled _ _ c.copied-unit.result.ruled).shares

pub returns-clause-zeros : goal.returns-clause-zeros
returns-clause-zeros g c =
    let last = outage_of_last c.args.unit.now.states.items in
    let same = c.states.ensures ∙ ap (λ u. u.states) c.copied-unit.ensures in
    λ m zeros. c.add.ensures.zeros m last (subst (Outages last) (sym same) (ruled _ _ c.args.unit.now.ruled).outages) zeros
