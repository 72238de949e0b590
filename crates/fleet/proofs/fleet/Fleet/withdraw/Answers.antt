use Rattle.std.proofs.Common.{◌≡◌, ℕ, ◌+◌, ◌-◌, ◌<◌, false, List, length, Some, None, sym, ap, ◌∙◌, subst, arith, rules}
use Rattle.std.specs.Option.{unwrap_or}
use Rattle.rounding.specs.Table.{Zeros}
use Rattle.rounding.specs.Tolerance.{removal_tolerance}
use Rattle.fleet.specs.Units.{GeneratingUnit, service_outage, greatest_outage}
use Rattle.fleet.specs.Standing.{unit_at, place_with, with_standing}
use Rattle.fleet.specs.Withdrawing.{withdraw_refusal}
use Rattle.fleet.specs.Fleets.{ledger_of}
use Rattle.fleet.specs.Registers.{units_of}
use Rattle.fleet.proofs.Removals.{accepted_removal, after_accepted}
use Rattle.fleet.proofs.Standings.{outage_withdrawn}
use Rattle.fleet.proofs.fleet.Fleet.withdraw.Goals as goal

-- the greatest outage without the unit is less by what the unit counts for
less : (units : List GeneratingUnit) (place : ℕ) (u : GeneratingUnit) (all share : ℕ) → place < length units → unit_at place units ≡ u → all ≡ greatest_outage units → share ≡ service_outage u → all ≡ greatest_outage (with_standing false place units) + share
less units place u all share inside there total one = omega (arith, total, one, outage_withdrawn place units inside, ap service_outage there)

pub overflow_sub-greatest : goal.overflow_sub-greatest
overflow_sub-greatest g c =
    let units = units_of c.args.self.now.register in
    let inside : c.in_ok-place.place < length units = search rules in
    let total = c.total.ensures.value service_outage (λ u n says. search rules) in
    omega (arith, less units c.in_ok-place.place _ _ _ inside c.at-unit.ensures total c.service_outage.ensures.value)

pub invariant_of-self-2 : goal.invariant_of-self-2
invariant_of-self-2 g c =
    let units = units_of c.args.self.now.register in
    let inside : c.in_ok-place.place < length units = search rules in
    let total = c.total.ensures.value service_outage (λ u n says. search rules) in
    let without = less units c.in_ok-place.place _ _ _ inside c.at-unit.ensures total c.service_outage.ensures.value in
    let most : c.total.result - c.service_outage.result ≡ greatest_outage (units_of c.set_serving.new.self) = omega (arith, without, ap greatest_outage c.set_serving.ensures) in
    let taken = c.in_ok-tolerance.ensures in
    record { zeros = subst (λ m. Zeros m c.remove.new.self.entries) most c.remove.ensures.zeros; held = omega (arith, taken.1, (accepted_removal c.first_weight.result c.args.self.now.tolerance taken.0).1) }

pub returns-clause-after : goal.returns-clause-after
returns-clause-after g c =
    let units = units_of c.args.self.now.register in
    let inside : c.in_ok-place.place < length units = search rules in
    let total = c.total.ensures.value service_outage (λ u n says. search rules) in
    let without = less units c.in_ok-place.place _ _ _ inside c.at-unit.ensures total c.service_outage.ensures.value in
    let most : c.total.result - c.service_outage.result ≡ greatest_outage (with_standing false c.in_ok-place.place units) = omega (arith, without) in
    let place : c.find.result ≡ Some c.in_ok-place.place = search rules in
    let here : place_with c.args.identity units ≡ c.in_ok-place.place = ap (λ o. unwrap_or o 0) (sym c.find.ensures.place ∙ place) in
    let none : withdraw_refusal (ledger_of c.args.self.now) c.args.identity ≡ None = search rules in
    after_accepted (g.R.Rounding.answer c.args.rule.now) (ledger_of c.args.self.now) _ c.args.identity c.in_ok-place.place (c.total.result - c.service_outage.result) _ none here c.at-unit.ensures most c.set_serving.ensures c.remove.ensures.entries
    (c.in_ok-tolerance.ensures.1 ∙ ap (λ w. removal_tolerance w c.args.self.now.tolerance) c.first_weight.ensures.value)
