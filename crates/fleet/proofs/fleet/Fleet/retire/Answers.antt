use Rattle.std.proofs.Common.{◌<◌, length, sym, ap, ◌∙◌, subst, rules}
use Rattle.rounding.specs.Table.{Zeros}
use Rattle.fleet.specs.Units.{greatest_outage}
use Rattle.fleet.specs.Registers.{units_of}
use Rattle.fleet.specs.declared.refusal.Refusal.TheVariants.{Standing}
use Rattle.fleet.proofs.Refusing.{accepted}
use Rattle.fleet.proofs.Striking.{outage_struck}
use Rattle.fleet.proofs.fleet.Fleet.retire.Goals as goal

pub invariant_of-self : goal.invariant_of-self
invariant_of-self c =
    let self = c.args.self.now in
    let units = units_of self.register in
    let inside : c.in_ok-place.place < length units = search rules in
    let out = ap (λ u. u.serving) c.at.ensures ∙ accepted _ Standing c.in_ok-stands.ensures.0 in
    let same = ap greatest_outage c.strike.ensures ∙ outage_struck units c.in_ok-place.place inside out in
    record { zeros = subst (λ m. Zeros m self.table.entries) (sym same) self.zeros; held = self.held }
