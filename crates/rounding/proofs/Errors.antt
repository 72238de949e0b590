-- The error of one entry when a unit is taken out, over plain numbers. Assumes nothing.
use Rattle.std.proofs.Common.{◌≡◌, ℕ, ◌+◌, ◌-◌, ◌*◌, ◌<◌, ◌≤◌, min, ap, ⊎_elim, mul-le-mul_right, add-mul, arith}
use native.Mathlib.Nat.{le_of_mul-le-mul_left}
use Rattle.std.proofs.lemmas.Bool.{cases_lt}
use Rattle.rounding.specs.Rule.{Near}
use Rattle.rounding.specs.Mixture.{million}
use Rattle.rounding.specs.Tolerance.{removal_tolerance}
use Rattle.rounding.specs.Division.{up_reaches}

-- less than one divisor apart is no more than the same
below_next : (e f g : ℕ) → e * g < f * g + g → e ≤ f
below_next e f g h =
    ⊎_elim (λ less. let next : f + 1 ≤ e = omega arith in let wide = mul-le-mul_right g next in absurd (omega (arith, add-mul f 1 g))) (λ le. le) (cases_lt f e)

-- the answer for a multiple of the divisor
pub near_multiple : (e f g : ℕ) → Near (f * g) g e → e ≡ f
near_multiple e f g near =
    let low = below_next e f g near.above in
    let high = below_next f e g near.below in
    omega arith

-- the tolerance after the removal pays for what it must: weight is that of the first state
pub removal_pays : (weight t : ℕ) → 500000 < weight → million * t + weight + million * removal_tolerance weight t ≤ 2 * weight * removal_tolerance weight t
removal_pays weight t high =
    let some : 0 < 2 * weight - million = omega arith in
    let reach = up_reaches (million * t + weight) (2 * weight - million) some in
    let whole : 2 * weight ≡ 2 * weight - million + million = omega arith in
    let spread = ap (λ n. n * removal_tolerance weight t) whole in
    omega arith

pub removal_grows : (weight t : ℕ) → 500000 < weight → weight ≤ million → t ≤ removal_tolerance weight t
removal_grows weight t high low =
    let pays = removal_pays weight t high in
    let less = mul-le-mul_right (removal_tolerance weight t) low in
    le_of_mul-le-mul_left {k = million} (omega arith) (omega arith)

-- g and w are the weights of the first state and of the rest, o the old entry, e the new one, a the amount of the rest;
-- x and r are the exact values of e and a; t and u are the tolerances before and after
module _ (g w t u scale o e a x r : ℕ) (some : 0 < g) (shares : g + w ≡ million) (pays : million * t + g + million * u ≤ 2 * g * u) (near : Near (million * o - a) g e) where
  parts : g * (u * scale) + w * (u * scale) ≡ million * (u * scale)
  parts = let spread = ap (λ n. n * (u * scale)) shares in omega arith

  scaled : (million * t + g + million * u) * scale ≤ 2 * g * u * scale
  scaled = mul-le-mul_right scale pays

  pub entry_over : o * (scale * million) ≤ g * x + r + t * (scale * million) → r ≤ a * scale + w * (u * scale) → e * scale ≤ x + u * scale
  entry_over old rest =
      ⊎_elim
      (λ h.
      let kept : e * g + a ≤ million * o + g = omega (arith, near.above) in
      let wide = mul-le-mul_right scale kept in
      le_of_mul-le-mul_left {k = g} (omega (arith, parts, scaled)) some)
      (λ h.
      let none = below_next e 0 g (omega (arith, near.above)) in
      let nothing = mul-le-mul_right scale none in
      omega arith)
      (cases_lt a (million * o))

  pub entry_under : g * x + r ≤ o * (scale * million) + t * (scale * million) → a * scale ≤ r + w * (u * scale) → x ≤ e * scale + u * scale
  entry_under old rest =
      let kept : million * o ≤ e * g + g + a = omega (arith, near.below) in
      let wide = mul-le-mul_right scale kept in
      le_of_mul-le-mul_left {k = g} (omega (arith, parts, scaled)) some

-- an entry that is held to the one before, where the exact values do not rise
pub min_near : (e before x y u scale : ℕ) → e * scale ≤ x + u * scale → x ≤ e * scale + u * scale → y ≤ before * scale + u * scale → x ≤ y → (min e before * scale ≤ x + u * scale) × (x ≤ min e before * scale + u * scale)
min_near e before x y u scale over under last falls =
    ⊎_elim
    (λ less. let this : min e before ≡ e = omega arith in rw this (over, under))
    (λ (more : before ≤ e). let this : min e before ≡ before = omega arith in let wide : before * scale ≤ e * scale = mul-le-mul_right scale more in rw this (omega arith, omega arith))
    (cases_lt e before)
