use Rattle.std.proofs.Common.{◌≡◌, drop}
use Rattle.fleet.specs.States.{later}
use Rattle.fleet.proofs.states.later.Given as goal

abbrev pub invariant-loop-state : goal.invariant-loop-state
invariant-loop-state l = later l.capacity l.before (drop l.state-index l.rest) ≡ later l.capacity l.first_outage l.rest
