-- The rules on a unit's states. Assumes nothing.
use Rattle.std.specs.Prelude.{ℕ, Bool, true, false, ◌&&◌, List, [], ◌∷◌, length, ◌==◌, nat_le, nat_lt}
use Rattle.rounding.specs.Mixture.{million, weights}
use Rattle.rounding.specs.declared.state.State.{State}

-- the first state has outage 0 and some weight
abbrev pub starts : State → Bool
starts s = s.outage == 0 && nat_le 1 s.weight

-- outages rise from state to state and stay within the capacity, and each state has some weight
abbrev pub follows : ℕ → ℕ → State → Bool
follows capacity before s = nat_lt before s.outage && (nat_le s.outage capacity && nat_le 1 s.weight)

unfoldable pub later : ℕ → ℕ → List State → Bool
later capacity before [] = true
later capacity before (s ∷ states) = follows capacity before s && later capacity s.outage states

-- 1 to 8 states that stand so, with weights that total a million
unfoldable pub lawful : ℕ → List State → Bool
lawful capacity [] = false
lawful capacity (first ∷ rest) =
    nat_le (length (first ∷ rest)) 8 && (starts first && (later capacity first.outage rest && weights (first ∷ rest) == million))

-- the outage of the last state
unfoldable pub outage_of_last : List State → ℕ
outage_of_last [] = 0
outage_of_last (s ∷ []) = s.outage
outage_of_last (s ∷ t ∷ states) = outage_of_last (t ∷ states)
