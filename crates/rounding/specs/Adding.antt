-- The recursion for adding a unit. Assumes nothing.
use Rattle.std.specs.Prelude.{ℕ, List, map, length}
use Rattle.std.specs.List.{range_with_len}
use Rattle.rounding.specs.Mixture.{million, amount}
use Rattle.rounding.specs.declared.state.State.{State}

-- the table with one unit more: at each place k the rule's answer for the amount at k and a million
unfoldable pub added : (ℕ → ℕ → ℕ) → List State → List ℕ → List ℕ
added answer states old = map (λ k. answer (amount states old k) million) (range_with_len 0 (length old))
