-- What a byte stands for. Assumes nothing.
use Rattle.std.specs.Prelude.{ℕ, ◌-◌, cond, ◌&&◌, ◌==◌, nat_le}
use Rattle.indices.specs.declared.byte.Kind.{Kind}
use Rattle.indices.specs.declared.byte.Kind.TheVariants.{Comma, LineFeed, Digit, Other}

-- a comma is byte 44, a line feed 10, and the digits 0 to 9 are 48 to 57
abbrev pub kind : ℕ → Kind
kind b = cond (b == 44) Comma (cond (b == 10) LineFeed (cond (nat_le 48 b && nat_le b 57) (Digit (b - 48)) Other))
