-- A table of entries: entry k tells, in parts of 10^-12, how likely it is that at least k steps are out. Assumes nothing.
use Rattle.std.specs.Prelude.{◌≡◌, ℕ, ◌+◌, ◌-◌, ◌*◌, ◌<◌, ◌≤◌, cond, List, length, nat_lt, slice_index}

-- certainty, in parts
abbrev pub full : ℕ
full = 1_000_000_000_000

-- the entry at place k − outage; below place 0 all is certain
abbrev pub entry_before : List ℕ → ℕ → ℕ → ℕ
entry_before entries k outage = cond (nat_lt k outage) full (slice_index entries (k - outage))

-- the entries never rise from place to place
abbrev pub Falling : List ℕ → Type 0
Falling entries = (k : ℕ) → slice_index entries (k + 1) ≤ slice_index entries k

-- above the greatest outage every entry is 0
abbrev pub Zeros : ℕ → List ℕ → Type 0
Zeros greatest entries = (k : ℕ) → greatest < k → slice_index entries k ≡ 0

-- the entries lie within a tolerance of the values x k ÷ scale
pub record Within (tolerance scale : ℕ) (x : ℕ → ℕ) (entries : List ℕ) : Type 0 where
  pub over : (k : ℕ) → k < length entries → slice_index entries k * scale ≤ x k + tolerance * scale
  pub under : (k : ℕ) → k < length entries → x k ≤ slice_index entries k * scale + tolerance * scale
