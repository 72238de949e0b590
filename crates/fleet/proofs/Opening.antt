-- The table of an open fleet. Assumes nothing.
use Rattle.std.proofs.Common.{◌≡◌, ℕ, zero, suc, ◌+◌, get_or, replicate, refl, arith}
use Rattle.rounding.specs.Table.{Falling, Zeros}
use Rattle.fleet.specs.Ledger.{open_table}

zeros_at : (n k : ℕ) → get_or {A = ℕ} (replicate n 0) k 0 ≡ 0
zeros_at zero k = refl
zeros_at (suc n) zero = refl
zeros_at (suc n) (suc k) = zeros_at n k

pub open_zeros : Zeros 0 open_table
open_zeros zero h = absurd (omega arith)
open_zeros (suc k) h = zeros_at 1000 k

pub open_falling : Falling open_table
open_falling k = let none : get_or open_table (k + 1) 0 ≡ 0 = open_zeros (k + 1) (omega arith) in omega arith
