use Rattle.std.proofs.Common.{◌≡◌, arith, rules}
use Rattle.rounding.specs.Removing.{first_weight}
use Rattle.fleet.proofs.Lawful.{ruled}
use Rattle.fleet.proofs.record.UnitRecord.first_weight.Goals as goal

pub returns-clause-held : goal.returns-clause-held
returns-clause-held c =
    let self = c.args.self.now in
    let value : c.map_or.result ≡ first_weight self.states.items = search rules in
    omega (arith, value, (ruled self.capacity self.states.items self.ruled).weight_held)
