-- The unit with an identity: when it is refused, and its standing changed. Assumes nothing.
use Rattle.std.specs.Prelude.{ℕ, Bool, cond, not, List, Option, slice_index_or, slice_set}
use Rattle.std.specs.Option.{unwrap_or}
use Rattle.fleet.specs.Refusals.{refused_if}
use Rattle.fleet.specs.Units.{GeneratingUnit, blank}
use Rattle.fleet.specs.LookUp.{place, registered}
use Rattle.fleet.specs.declared.refusal.Refusal.TheVariants.{NotRegistered, Standing}

-- the place of a registered identity; a call on any other identity is refused, and never comes to the 0
abbrev pub place_with : ℕ → List GeneratingUnit → ℕ
place_with identity units = unwrap_or (place identity units) 0

-- the unit at a place
abbrev pub unit_at : ℕ → List GeneratingUnit → GeneratingUnit
unit_at i units = slice_index_or units i blank

-- the unit with a registered identity
abbrev pub unit_with : ℕ → List GeneratingUnit → GeneratingUnit
unit_with identity units = unit_at (place_with identity units) units

-- the identity is not registered
abbrev pub absent_refusal : List GeneratingUnit → ℕ → Option ℕ
absent_refusal units identity = refused_if (not (registered identity units)) NotRegistered

-- the unit does not stand as the call needs it: in service, or out
abbrev pub standing_refusal : Bool → GeneratingUnit → Option ℕ
standing_refusal serving u = refused_if (cond serving (not u.serving) u.serving) Standing

-- the same unit, in service or out
abbrev pub standing_as : Bool → GeneratingUnit → GeneratingUnit
standing_as serving u = record { identity = u.identity; capacity = u.capacity; states = u.states; serving = serving }

-- the units with the standing of one of them changed: that of the unit at a place
abbrev pub with_standing : Bool → ℕ → List GeneratingUnit → List GeneratingUnit
with_standing serving i units = slice_set units i (standing_as serving (unit_at i units))
