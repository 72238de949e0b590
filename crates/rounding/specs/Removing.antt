-- The reverse of the recursion: a unit taken out of a table. Assumes nothing.
use Rattle.std.specs.Prelude.{◌≡◌, ℕ, zero, suc, ◌+◌, ◌-◌, ◌*◌, ◌<◌, ◌≤◌, min, cond, List, [], ◌∷◌, ◌++◌, length, nat_lt, slice_index}
use Rattle.std.specs.List.{AllByRecursion}
use Rattle.rounding.specs.Table.{entry_before}
use Rattle.rounding.specs.Mixture.{million, amount}
use Rattle.rounding.specs.declared.state.State.{State}

-- nothing is out in the first state, and something in each later one
abbrev pub Starting : List State → Type 0
Starting [] = ⊥
Starting (first ∷ rest) = (first.outage ≡ 0) × AllByRecursion (λ s. 1 ≤ s.outage) rest

-- the weight of the first state
abbrev pub first_weight : List State → ℕ
first_weight [] = 0
first_weight (first ∷ rest) = first.weight

-- entry k of the table without a unit, from its entries below k: the rule's answer for what the later states leave of
-- the old entry, or the entry before where that is less; above the greatest outage without the unit it is 0
abbrev pub entry_without : (ℕ → ℕ → ℕ) → State → List State → ℕ → List ℕ → List ℕ → ℕ → ℕ
entry_without answer first rest greatest old below k =
    cond (nat_lt greatest k) 0
    (min (answer (million * slice_index old k - amount rest below k) first.weight) (entry_before below k 1))

-- the entries at the places below n, found from place 0 upward
unfoldable pub entries_without : (ℕ → ℕ → ℕ) → State → List State → ℕ → List ℕ → ℕ → List ℕ
entries_without answer first rest greatest old zero = []
entries_without answer first rest greatest old (suc k) =
    let below = entries_without answer first rest greatest old k in
    below ++ entry_without answer first rest greatest old below k ∷ []

-- the whole table without a unit
unfoldable pub without : (ℕ → ℕ → ℕ) → List State → ℕ → List ℕ → List ℕ
without answer [] greatest old = old
without answer (first ∷ rest) greatest old = entries_without answer first rest greatest old (length old)

-- what exact values keep: they never rise, and above the greatest outage they are 0
pub record Tail (greatest : ℕ) (x : ℕ → ℕ) : Type 0 where
  pub falls : (k : ℕ) → x (k + 1) ≤ x k
  pub ends : (k : ℕ) → greatest < k → x k ≡ 0
