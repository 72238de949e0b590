-- What is answered of a place of the table. Assumes nothing.
use Rattle.std.specs.Prelude.{◌≡◌, ℕ, Option, nat_lt, slice_index}
use Rattle.fleet.specs.Refusals.{refused_if}
use Rattle.fleet.specs.Ledger.{Ledger}
use Rattle.fleet.specs.declared.refusal.Refusal.TheVariants.{Place}

-- a place above 1,000
abbrev pub entry_refusal : ℕ → Option ℕ
entry_refusal k = refused_if (nat_lt 1000 k) Place

-- the number of parts at place k, together with the tolerance
pub record Entry (l : Ledger) (k : ℕ) (answer : ℕ × ℕ) : Type 0 where
  pub parts : answer.0 ≡ slice_index l.table k
  pub tolerance : answer.1 ≡ l.tolerance
