use Rattle.std.proofs.Common.{◌*◌, nat_le, rules}
use Rattle.rounding.proofs.rules.NearestRounding.round.Goals as goal

pub returns-clause-value : goal.returns-clause-value
returns-clause-value c = c.divided.ensures.value (λ remainder divisor. nat_le divisor (2 * remainder)) (λ remainder divisor b h. search rules)
