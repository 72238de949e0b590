-- Laws of digits and values. Assumes nothing.
use Rattle.std.proofs.Common.{◌≡◌, ℕ, ◌-◌, ◌^◌, ◌<◌, ◌≤◌, arith}
use native.Mathlib.Nat.{pow-le-pow_right}
use Rattle.std.proofs.lemmas.Bool.Decides.{nat_tests}
use Rattle.indices.specs.declared.byte.Kind.TheVariants.{Digit}
use Rattle.indices.specs.Byte.{kind}

-- the digit that a byte is
pub digit_value : (b d : ℕ) → kind b ≡ Digit d → (d ≡ b - 48) × (b - 48 < 10)
digit_value b d h = grind (arith, nat_tests)

pub below_seven : (i n : ℕ) → n < 10 ^ i → i ≤ 7 → n < 10 ^ 7
below_seven i n h e = omega (arith, pow-le-pow_right {n = 10} (omega arith) e)
