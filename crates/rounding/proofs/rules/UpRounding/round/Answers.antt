use Rattle.std.proofs.Common.{nat_lt, rules}
use Rattle.rounding.proofs.rules.UpRounding.round.Goals as goal

pub returns-clause-value : goal.returns-clause-value
returns-clause-value c = c.divided.ensures.value (λ remainder divisor. nat_lt 0 remainder) (λ remainder divisor b h. search rules)
