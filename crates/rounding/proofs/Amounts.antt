-- Sums of weight × entry. Assumes nothing.
use Rattle.std.proofs.Common.{◌≡◌, ℕ, ◌+◌, ◌-◌, ◌*◌, ◌<◌, ◌≤◌, ltb, List, [], ◌∷◌, length, get_or, take, refl, add-mul, mul-le-mul_left, arith}
use Rattle.std.proofs.lemmas.List.Sums.{sum_by-cons, sum_by_more, sum_by-take-le}
use Rattle.std.proofs.lemmas.Bool.{cond_both}
use Rattle.rounding.specs.Table.{full, entry_before}
use Rattle.rounding.specs.Mixture.{million, weights, amount, mixture}
use Rattle.rounding.specs.declared.state.State.{State}

pub weights_cons : (s : State) (states : List State) → weights (s ∷ states) ≡ s.weight + weights states
unfolding weights
weights_cons s states = sum_by-cons _ s states

pub amount_cons : (s : State) (states : List State) (entries : List ℕ) (k : ℕ) → amount (s ∷ states) entries k ≡ s.weight * entry_before entries k s.outage + amount states entries k
unfolding amount
amount_cons s states entries k = sum_by-cons _ s states

pub mixture_cons : (s : State) (states : List State) (x : ℕ → ℕ) (k : ℕ) → mixture (s ∷ states) x k ≡ s.weight * x (k - s.outage) + mixture states x k
unfolding mixture
mixture_cons s states x k = sum_by-cons _ s states

pub amount_none : (entries : List ℕ) (k : ℕ) → amount [] entries k ≡ 0
unfolding amount
amount_none entries k = refl

pub mixture_none : (x : ℕ → ℕ) (k : ℕ) → mixture [] x k ≡ 0
unfolding mixture
mixture_none x k = refl

pub weights_none : weights [] ≡ 0
unfolding weights
weights_none = refl

pub amount_more : (states : List State) (entries : List ℕ) (k i : ℕ) (d : State) → i < length states → amount (take (i + 1) states) entries k ≡ amount (take i states) entries k + (get_or states i d).weight * entry_before entries k (get_or states i d).outage
unfolding amount
amount_more states entries k i d h = sum_by_more _ states i d h

pub weights_take : (states : List State) (i : ℕ) → weights (take i states) ≤ weights states
unfolding weights
weights_take states i = sum_by-take-le _ states i

module _ (entries : List ℕ) (fits : (i : ℕ) → get_or entries i 0 ≤ full) where
  pub before_le : (k outage : ℕ) → entry_before entries k outage ≤ full
  before_le k outage = cond_both (ltb k outage) full (get_or entries (k - outage) 0) (λ e. e ≤ full) (λ _. omega arith) (λ _. fits (k - outage))

  pub amount_le : (states : List State) (k : ℕ) → amount states entries k ≤ weights states * full
  amount_le [] k = rw (amount_none, weights_none) (omega arith)
  amount_le (s ∷ states) k =
      let rest = amount_le states k in
      let one = mul-le-mul_left s.weight (before_le k s.outage) in
      rw (amount_cons, weights_cons) (omega (arith, add-mul s.weight (weights states) full))

  -- a sum over the first states fits 64 bits
  pub amount_fits : (states : List State) (k i : ℕ) → weights states ≤ million → amount (take i states) entries k ≤ 1_000_000_000_000_000_000
  amount_fits states k i shares =
      let some = amount_le (take i states) k in
      let part = weights_take states i in
      omega arith
