use Rattle.std.proofs.Common.{◌≡◌, ◌+◌, [], ◌∷◌, ◌++◌, sym, ap, ◌∙◌, subst, arith, rules}
use Rattle.rounding.specs.Table.{Zeros}
use Rattle.fleet.specs.States.{outage_of_last}
use Rattle.fleet.specs.Units.{greatest_outage}
use Rattle.fleet.specs.Adding.{room_refusal}
use Rattle.fleet.specs.Registers.{units_of}
use Rattle.fleet.proofs.Adding.{accepted_tolerance, added_outage}
use Rattle.fleet.proofs.fleet.Fleet.add.Goals as goal

pub invariant_of-self : goal.invariant_of-self
invariant_of-self g c =
    let self = c.args.self.now in
    let units = units_of self.register in
    let made = c.in_ok-unit.ensures.1 in
    let risen = c.in_ok-tolerance.ensures in
    let pushed = c.push.ensures ∙ ap (λ u. units ++ u ∷ []) made in
    let most = added_outage units (units_of c.push.new.self) c.args.identity c.args.capacity c.args.states.now pushed ∙ ap (λ u. greatest_outage units + outage_of_last u.states) (sym made) in
    record { zeros = subst (λ m. Zeros m c.add.new.self.entries) (sym most) (c.add.ensures.zeros (greatest_outage units) self.zeros); held = omega (arith, risen.1, accepted_tolerance _ risen.0) }

pub returns-in_err-room-clause-answer : goal.returns-in_err-room-clause-answer
returns-in_err-room-clause-answer g c =
    let units = units_of c.args.self.now.register in
    let told : room_refusal units c.args.identity c.args.capacity ≡ room_refusal units c.in_ok-unit.unit.identity c.in_ok-unit.unit.capacity = ap (λ u. room_refusal units u.identity u.capacity) (sym c.in_ok-unit.ensures.1) in
    search (rules, told)
