use Rattle.std.proofs.Common.{◌≡◌, arith, rules}
use Rattle.std.specs.Option.{option_map, unwrap_or, option_copied}
use Rattle.rounding.specs.declared.state.State.{State}
use Rattle.fleet.specs.States.{outage_of_last}
use Rattle.fleet.proofs.Lawful.{ruled, last_is}
use Rattle.fleet.proofs.record.UnitRecord.last_outage.Goals as goal

told : (c : goal.After-map_or) → c.map_or.result ≡ unwrap_or (option_map (λ (s : State). s.outage) (option_copied c.last.result)) 0
told c = search rules

pub returns-clause-value : goal.returns-clause-value
returns-clause-value c = rw (last_is c.args.self.now.states.items, ← c.deref.ensures.0, ← c.last.ensures.value) (told c)

pub returns-clause-held : goal.returns-clause-held
returns-clause-held c =
    let self = c.args.self.now in
    let value : c.map_or.result ≡ outage_of_last self.states.items = returns-clause-value c in
    omega (arith, value, (ruled self.capacity self.states.items self.ruled).held)
