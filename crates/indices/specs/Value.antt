-- The value of a field, and the first fault of a line's fields. Assumes nothing.
use Rattle.std.specs.Prelude.{ℕ, ◌+◌, ◌-◌, ◌*◌, Bool, true, false, cond, ◌&&◌, List, [], ◌∷◌, length, Some, None, fold, Option, nat_le}
use Rattle.std.specs.List.{list_all}
use Rattle.std.specs.Option.{option_or}
use Rattle.indices.specs.declared.byte.Kind.{Kind}
use Rattle.indices.specs.declared.byte.Kind.TheVariants.{Comma, LineFeed, Digit, Other}
use Rattle.indices.specs.declared.fault.Fault.{Fault}
use Rattle.indices.specs.declared.fault.Reason.{Reason}
use Rattle.indices.specs.declared.fault.Reason.TheVariants.{NotDigit, DigitCount}
use Rattle.indices.specs.Byte.{kind}
use Rattle.indices.specs.Fault.{fault_at}
use Rattle.indices.specs.Text.{Line}

abbrev pub digit : Kind → Bool
digit Comma = false
digit LineFeed = false
digit (Digit d) = true
digit Other = false

abbrev pub digits : List ℕ → Bool
digits f = list_all (λ b. digit (kind b)) f

-- the number that decimal digits write; byte 48 is the digit 0
abbrev pub value : List ℕ → ℕ
value f = fold (λ n b. n * 10 + (b - 48)) 0 f

-- a value has digits alone, 1 to 7 of them
abbrev pub wrong : List ℕ → Option Reason
wrong f = cond (digits f) (cond (nat_le 1 (length f) && nat_le (length f) 7) None (Some DigitCount)) (Some NotDigit)

abbrev pub located : ℕ → ℕ → Option Reason → Option Fault
located line place None = None
located line place (Some reason) = Some (fault_at reason line place)

-- the fields are judged one by one from the left; place is that of the first
abbrev pub first_wrong : ℕ → ℕ → Line → Option Fault
first_wrong line place [] = None
first_wrong line place (f ∷ fs) = option_or (located line place (wrong f)) (first_wrong line (place + 1) fs)
