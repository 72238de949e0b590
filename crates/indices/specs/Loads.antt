-- Lists of loads, in steps, one for each day. Assumes nothing.
use Rattle.std.specs.Prelude.{ℕ, ◌≤◌, min, max, Bool, ◌&&◌, List, map, length, nat_le, slice_index}
use Rattle.std.specs.List.{range_with_len, list_all}

-- the most days that a list may have
abbrev pub most_days : ℕ
most_days = 8784

-- the greatest load
abbrev pub limit : ℕ
limit = 1000

-- what marks a load above the limit
abbrev pub above_limit : ℕ
above_limit = 1001

-- a number of days that a list may have
abbrev pub day_count : ℕ → Bool
day_count days = nat_le 1 days && nat_le days most_days

-- what a load model may mean: 1 to 8,784 loads, each at most 1,000 or marked as above the limit
pub record Bounded (loads : List ℕ) : Type 0 where
  pub some : 1 ≤ length loads
  pub few : length loads ≤ most_days
  pub each : (day : ℕ) → slice_index loads day ≤ above_limit

-- no load is above the limit
unfoldable pub all_within_limit : List ℕ → Bool
all_within_limit loads = list_all (λ load. nat_le load limit) loads

-- a number of days, held to what a list may have
abbrev pub held_days : ℕ → ℕ
held_days days = max 1 (min days most_days)

-- any list of numbers as loads: it is held to 1 to 8,784 days, where a missing one has load 0, and a number above the limit is marked
unfoldable pub as_loads : List ℕ → List ℕ
as_loads numbers = map (λ day. min (slice_index numbers day) above_limit) (range_with_len 0 (held_days (length numbers)))
