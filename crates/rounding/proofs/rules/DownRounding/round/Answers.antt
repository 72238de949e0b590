use Rattle.std.proofs.Common.{false, rules}
use Rattle.rounding.proofs.rules.DownRounding.round.Goals as goal

pub returns-clause-value : goal.returns-clause-value
returns-clause-value c = c.divided.ensures.value (λ remainder divisor. false) (λ remainder divisor b h. search rules)
