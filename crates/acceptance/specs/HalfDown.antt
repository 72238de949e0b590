-- The rule that rounds to the nearest whole number, a half down, keeps both laws. Assumes nothing.
use Rattle.std.specs.Prelude.{◌*◌, nat_lt}
use Rattle.std.proofs.Common.{arith}
use Rattle.std.proofs.lemmas.Bool.{ltb-true, lt-ltb}
use Rattle.rounding.specs.Rule.{Close, Rising, divided}
use Rattle.rounding.specs.Division.{divided_close, divided_rising}

pub half_down_close : Close (divided (λ remainder divisor. nat_lt divisor (2 * remainder)))
half_down_close = divided_close _ (λ r d h e. let over = ltb-true d (2 * r) e in omega arith)

pub half_down_rising : Rising (divided (λ remainder divisor. nat_lt divisor (2 * remainder)))
half_down_rising = divided_rising _ (λ r s d h e. let over = ltb-true d (2 * r) e in lt-ltb d (2 * s) (omega arith))
