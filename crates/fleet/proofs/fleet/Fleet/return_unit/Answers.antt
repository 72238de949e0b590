use Rattle.std.proofs.Common.{◌+◌, ◌<◌, length, sym, ap, ◌∙◌, subst, arith, rules}
use Rattle.rounding.specs.Table.{Zeros}
use Rattle.fleet.specs.States.{outage_of_last}
use Rattle.fleet.specs.Units.{greatest_outage}
use Rattle.fleet.specs.Registers.{units_of}
use Rattle.fleet.specs.declared.refusal.Refusal.TheVariants.{Standing}
use Rattle.fleet.proofs.Refusing.{accepted}
use Rattle.fleet.proofs.Adding.{accepted_tolerance}
use Rattle.fleet.proofs.Standings.{outage_returned}
use Rattle.fleet.proofs.fleet.Fleet.return_unit.Goals as goal

pub invariant_of-self-2 : goal.invariant_of-self-2
invariant_of-self-2 g c =
    let self = c.args.self.now in
    let units = units_of self.register in
    let inside : c.in_ok-place.place < length units = search rules in
    let risen = c.in_ok-tolerance.ensures in
    let there = c.at-unit.ensures in
    let out = ap (λ u. u.serving) there ∙ accepted _ Standing c.in_ok-stands.ensures.0 in
    let most = ap greatest_outage c.set_serving.ensures ∙ outage_returned c.in_ok-place.place units inside out ∙ ap (λ u. greatest_outage units + outage_of_last u.states) there in
    record { zeros = subst (λ m. Zeros m c.add.new.self.entries) (sym most) (c.add.ensures.zeros (greatest_outage units) self.zeros); held = omega (arith, risen.1, accepted_tolerance _ risen.0) }
