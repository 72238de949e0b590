-- The number of each refusal, and what a refused call answers. Assumes nothing.
use Rattle.std.specs.Prelude.{◌≡◌, ℕ, Bool, cond, Some, None, Ok, Err, Option, Result}
use Rattle.fleet.specs.declared.refusal.Refusal.{Refusal}
use Rattle.fleet.specs.declared.refusal.Refusal.TheVariants.{Identity, Capacity, States, Registered, Full, TotalCapacity, NotRegistered, Standing, FirstWeight, Tolerance, Place, Loads, AboveLimit, Hours}

abbrev pub number : Refusal → ℕ
number Identity = 1
number Capacity = 2
number States = 3
number Registered = 4
number Full = 5
number TotalCapacity = 6
number NotRegistered = 7
number Standing = 8
number FirstWeight = 9
number Tolerance = 10
number Place = 11
number Loads = 12
number AboveLimit = 13
number Hours = 14

-- of two rules of refusal in their order, the one that comes first
abbrev pub first : Option ℕ → Option ℕ → Option ℕ
first None next = next
first (Some n) next = Some n

-- a rule of refusal: its number in its case, and nothing else
abbrev pub refused_if : Bool → Refusal → Option ℕ
refused_if case refusal = cond case (Some (number refusal)) None

-- the call is refused with just the number that its rule gives, or else answers as said
abbrev pub Outcome : {T : Type 0} → Option ℕ → Result T Refusal → (T → Type 0) → Type 0
Outcome refusal (Ok x) Says = (refusal ≡ None) × Says x
Outcome refusal (Err e) Says = refusal ≡ Some (number e)

-- what a call leaves: all as it was where it is refused
abbrev pub unless : {A : Type 0} → Option ℕ → A → A → A
unless None before after = after
unless (Some n) before after = before
