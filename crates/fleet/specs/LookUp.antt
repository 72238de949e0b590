-- Units by their identity. Assumes nothing.
use Rattle.std.specs.Prelude.{ℕ, Bool, cond, List, [], ◌∷◌, is_some, Some, None, Option, ◌==◌}
use Rattle.std.specs.List.{position}
use Rattle.fleet.specs.Units.{GeneratingUnit}

-- the place of the first unit with an identity
abbrev pub place : ℕ → List GeneratingUnit → Option ℕ
place identity units = position (λ u. u.identity == identity) units

abbrev pub registered : ℕ → List GeneratingUnit → Bool
registered identity units = is_some (place identity units)

-- a standing as a number: 1 in service, 0 out
abbrev pub standing : Bool → ℕ
standing serving = cond serving 1 0

-- the capacity and the standing of a unit, as plain numbers
abbrev pub plain : GeneratingUnit → ℕ × ℕ
plain u = (u.capacity, standing u.serving)

-- those of the first unit with an identity, or nothing
unfoldable pub look_up : ℕ → List GeneratingUnit → Option (ℕ × ℕ)
look_up identity [] = None
look_up identity (u ∷ units) = cond (u.identity == identity) (Some (plain u)) (look_up identity units)
