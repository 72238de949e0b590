use Rattle.std.proofs.Common.{◌≡◌, true, [], ◌∷◌, ◌++◌, refl, ap, ◌∙◌, arith}
use Rattle.rounding.specs.Mixture.{weights}
use Rattle.rounding.specs.declared.state.State.{State}
use Rattle.fleet.specs.States.{later, lawful}
use Rattle.fleet.proofs.record.made.UnitRecordDefault.default.Goals as goal

abbrev sure : State
sure = record { outage = 0; weight = 1_000_000 }

sure_lawful : lawful 0 (sure ∷ []) ≡ true
unfolding lawful later weights
sure_lawful = refl

pub invariant_of-result : goal.invariant_of-result
invariant_of-result c = record { held = omega arith; ruled = ap (lawful 0) (c.push.ensures.items ∙ ap (λ states. states ++ sure ∷ []) c.new-states.ensures) ∙ sure_lawful }
