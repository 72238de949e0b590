-- What follows the last line feed of a sheet. Assumes nothing.
use Rattle.std.specs.Prelude.{ℕ, Bool, true, false, cond, ◌&&◌, [], ◌∷◌, Some, None, Option, nat_lt}
use Rattle.indices.specs.declared.fault.Fault.{Fault}
use Rattle.indices.specs.declared.fault.Reason.TheVariants.{NoLineFeed}
use Rattle.indices.specs.Fault.{fault_of_line}
use Rattle.indices.specs.Text.{Line}

-- nothing: one empty field
abbrev pub blank : Line → Bool
blank [] = false
blank ([] ∷ []) = true
blank ([] ∷ g ∷ fs) = false
blank ((b ∷ f) ∷ fs) = false

-- what is wrong with the line that follows the last line feed: from line 2 on, nothing if it is blank
abbrev pub final : ℕ → Line → Option Fault
final line l = cond (nat_lt 1 line && blank l) None (Some (fault_of_line NoLineFeed line))
