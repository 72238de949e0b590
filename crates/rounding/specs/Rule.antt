-- What a rounding rule owes, and the three rules. Assumes nothing.
use Rattle.std.specs.Prelude.{ℕ, ◌+◌, ◌*◌, ◌/◌, ◌%◌, ◌^◌, ◌<◌, ◌≤◌, Bool, false, cond, ◌==◌, nat_le, nat_lt}

-- An amount has 64 bits and a divisor 32. The laws speak of these pairs alone, and not of divisor 0.
pub record Asked (amount divisor : ℕ) : Type 0 where
  pub amount_fits : amount < 2 ^ 64
  pub divisor_fits : divisor < 2 ^ 32
  pub divisor_some : 0 < divisor

-- answer × divisor is less than one divisor from the amount
pub record Near (amount divisor answer : ℕ) : Type 0 where
  pub below : amount < answer * divisor + divisor
  pub above : answer * divisor < amount + divisor

abbrev pub Close : (ℕ → ℕ → ℕ) → Type 0
Close answer = (amount divisor : ℕ) → Asked amount divisor → Near amount divisor (answer amount divisor)

-- for a fixed divisor the answer never falls as the amount grows
abbrev pub Rising : (ℕ → ℕ → ℕ) → Type 0
Rising answer = (less more divisor : ℕ) → Asked more divisor → less ≤ more → answer less divisor ≤ answer more divisor

-- the quotient, raised by one where the rule says so of the remainder and the divisor; 0 for divisor 0
abbrev pub divided : (ℕ → ℕ → Bool) → ℕ → ℕ → ℕ
divided one_more amount divisor =
    cond (divisor == 0) 0 (amount / divisor + cond (one_more (amount % divisor) divisor) 1 0)

-- the quotient
abbrev pub down : ℕ → ℕ → ℕ
down = divided (λ remainder divisor. false)

-- raised by one unless the division is exact
abbrev pub up : ℕ → ℕ → ℕ
up = divided (λ remainder divisor. nat_lt 0 remainder)

-- raised by one where the remainder is half the divisor or more
abbrev pub nearest : ℕ → ℕ → ℕ
nearest = divided (λ remainder divisor. nat_le divisor (2 * remainder))
