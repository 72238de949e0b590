use Rattle.std.proofs.Common.{◌≡◌, take}
use Rattle.rounding.specs.Mixture.{amount}
use Rattle.rounding.proofs.place.Place.amount.Given as goal

abbrev pub invariant-loop-state : goal.invariant-loop-state
invariant-loop-state l = l.sum ≡ amount (take l.state-index l.states) l.self.entries.now l.self.k
