-- A rule that answers the quotient, or one more by the remainder, keeps both laws. Assumes nothing.
use Rattle.std.specs.Prelude.{◌≡◌, ℕ, ◌+◌, ◌*◌, ◌/◌, ◌%◌, ◌<◌, ◌≤◌, Bool, true, false, cond, ltb, ◌==◌, nat_lt, refl}
use Rattle.std.proofs.Common.{ap, ⊎_elim, div-add-mod', mod-lt, add-mul, mul-le-mul_right, arith}
use Rattle.std.proofs.lemmas.Bool.{cond-false, ne_eqb, cases_lt, false≢true, ltb-true, ltb-false, lt-ltb, leb-true, le-leb}
use Rattle.rounding.specs.Rule.{Near, Close, Rising, divided, down, up, nearest}

-- the quotient with or without one more
unfoldable bumped : Bool → ℕ → ℕ
bumped b q = q + cond b 1 0

some_divisor : (one_more : ℕ → ℕ → Bool) (amount divisor : ℕ) → 0 < divisor → divided one_more amount divisor ≡ bumped (one_more (amount % divisor) divisor) (amount / divisor)
unfolding bumped
some_divisor one_more amount divisor h = cond-false (divisor == 0) 0 _ (ne_eqb divisor 0 (λ e. omega arith))

near : (b : Bool) (a d q r : ℕ) → q * d + r ≡ a → r < d → (b ≡ true → 0 < r) → Near a d (bumped b q)
unfolding bumped
near true a d q r is small some =
    let more = some refl in
    let wide = add-mul q 1 d in
    record { below = omega arith; above = omega arith }
near false a d q r is small some = let wide = add-mul q 0 d in record { below = omega arith; above = omega arith }

-- one more only where there is a remainder
pub divided_close : (one_more : ℕ → ℕ → Bool) → ((r d : ℕ) → 0 < d → one_more r d ≡ true → 0 < r) → Close (divided one_more)
divided_close one_more some a d asked =
    let h = asked.divisor_some in
    rw (some_divisor one_more a d h) (near (one_more (a % d) d) a d (a / d) (a % d) (div-add-mod' a d) (mod-lt a h) (some (a % d) d h))

ordered : (b c : Bool) (p q : ℕ) → p ≤ q → (p ≡ q → b ≡ true → c ≡ true) → bumped b p ≤ bumped c q
unfolding bumped
ordered false c p q h k = omega arith
ordered true true p q h k = omega arith
ordered true false p q h k = ⊎_elim (λ less. omega arith) (λ same. absurd (false≢true (k (omega arith) refl))) (cases_lt p q)

quotients : (p q d r s : ℕ) → p * d + r ≤ q * d + s → s < d → p ≤ q
quotients p q d r s h small =
    ⊎_elim
    (λ less. let next : q + 1 ≤ p = omega arith in let wide = mul-le-mul_right d next in let out = add-mul q 1 d in absurd (omega arith))
    (λ le. le)
    (cases_lt q p)

-- a greater remainder takes one more wherever a smaller one does
pub divided_rising : (one_more : ℕ → ℕ → Bool) → ((r s d : ℕ) → r ≤ s → one_more r d ≡ true → one_more s d ≡ true) → Rising (divided one_more)
divided_rising one_more grows a b d asked h =
    let some = asked.divisor_some in
    let first = div-add-mod' a d in
    let second = div-add-mod' b d in
    let small = mod-lt b some in
    let q = quotients (a / d) (b / d) d (a % d) (b % d) (omega arith) small in
    rw (some_divisor one_more a d some, some_divisor one_more b d some)
    (ordered (one_more (a % d) d) (one_more (b % d) d) (a / d) (b / d) q
    (λ same. let level = ap (λ n. n * d) same in grows (a % d) (b % d) d (omega arith)))

pub down_close : Close down
down_close = divided_close _ (λ r d h e. absurd (false≢true e))

pub down_rising : Rising down
down_rising = divided_rising (λ remainder divisor. false) (λ r s d h e. e)

reaches : (b : Bool) (a d q r : ℕ) → q * d + r ≡ a → r < d → (b ≡ false → r ≤ 0) → a ≤ bumped b q * d
unfolding bumped
reaches true a d q r whole small none = omega (arith, add-mul q 1 d)
reaches false a d q r whole small none = let no-rest = none refl in omega (arith, add-mul q 0 d)

pub up_close : Close up
up_close = divided_close _ (λ r d h e. ltb-true 0 r e)

pub up_rising : Rising up
up_rising = divided_rising _ (λ r s d h e. let some = ltb-true 0 r e in lt-ltb 0 s (omega arith))

-- a quotient that is rounded up reaches the amount
pub up_reaches : (amount divisor : ℕ) → 0 < divisor → amount ≤ up amount divisor * divisor
up_reaches a d h =
    let whole = div-add-mod' a d in
    let small = mod-lt a h in
    rw (some_divisor (λ remainder divisor. ltb 0 remainder) a d h) (reaches (nat_lt 0 (a % d)) a d (a / d) (a % d) whole small (ltb-false 0 (a % d)))

pub nearest_close : Close nearest
nearest_close = divided_close _ (λ r d h e. let half = leb-true d (2 * r) e in omega arith)

pub nearest_rising : Rising nearest
nearest_rising = divided_rising _ (λ r s d h e. let half = leb-true d (2 * r) e in le-leb d (2 * s) (omega arith))
