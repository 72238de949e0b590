use Rattle.std.proofs.Common.{rules}
use Rattle.rounding.specs.Mixture.{weights}
use Rattle.fleet.proofs.states.total_weight.Goals as goal

pub returns : goal.returns
unfolding weights
returns c = search rules
