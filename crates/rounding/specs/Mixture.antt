-- What a unit's states make of a table, and of any sequence. Assumes nothing.
use Rattle.std.specs.Prelude.{ℕ, ◌-◌, ◌*◌, ◌≤◌, List, sum_by}
use Rattle.std.specs.List.{AllByRecursion}
use Rattle.rounding.specs.Table.{entry_before}
use Rattle.rounding.specs.declared.state.State.{State}

-- certainty, in millionths
abbrev pub million : ℕ
million = 1_000_000

-- the sum of the weights
unfoldable pub weights : List State → ℕ
weights states = sum_by (λ s. s.weight) states

-- no state has more than this out
abbrev pub Outages : ℕ → List State → Type 0
Outages most states = AllByRecursion (λ s. s.outage ≤ most) states

-- the sum of weight × entry at place k − outage, over the states
unfoldable pub amount : List State → List ℕ → ℕ → ℕ
amount states entries k = sum_by (λ s. s.weight * entry_before entries k s.outage) states

-- the same mixture of any sequence; its place 0 stands for those below
unfoldable pub mixture : List State → (ℕ → ℕ) → ℕ → ℕ
mixture states x k = sum_by (λ s. s.weight * x (k - s.outage)) states
