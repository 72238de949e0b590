use Rattle.std.proofs.Common.{◌+◌, sym, subst}
use Rattle.std.proofs.lemmas.Bool.{cond-true}
use Rattle.rounding.specs.Table.{Zeros}
use Rattle.fleet.specs.States.{outage_of_last}
use Rattle.fleet.proofs.table.Table.add_if_serving.Goals as goal

pub returns-then-unit-clause-zeros : goal.returns-then-unit-clause-zeros
returns-then-unit-clause-zeros g c =
    let unit = c.args.unit.now in
    let last = outage_of_last unit.states.items in
    λ m zeros. subst (λ n. Zeros (m + n) c.add.new.self.entries) (sym (cond-true unit.serving last 0 c.if-unit.true)) (c.add.ensures.zeros m zeros)
