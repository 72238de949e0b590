use Rattle.std.proofs.Common.{◌≡◌, ℕ, ◌<◌, ◌≤◌, Bool, List, map, length, get_or, set, refl, ap, ◌∙◌, arith, length-set}
use Rattle.arrayvec.specs.ArrayVec.{with_items}
use Rattle.arrayvec.proofs.ArrayVecLemmas.{items-with_items}
use Rattle.fleet.specs.Units.{unit_of, registered_capacity}
use Rattle.fleet.specs.Standing.{standing_as, with_standing}
use Rattle.fleet.specs.Registers.{units_of}
use Rattle.fleet.specs.declared.record.UnitRecord.{UnitRecord}
use Rattle.fleet.specs.declared.register.Register.{Register}
use Rattle.fleet.proofs.Standings.{recorded_standing, capacity_standing}
use Rattle.fleet.proofs.register.Register.set_serving.Goals as goal

-- what is written through the slice is what the register then holds
changed : (self : Register) (shown : List UnitRecord) (place : ℕ) (serving : Bool) (d new : UnitRecord) → shown ≡ self.units.items → place < length (units_of self) → unit_of new ≡ standing_as serving (unit_of (get_or shown place d)) → map unit_of (with_items self.units (set shown place new)).items ≡ with_standing serving place (units_of self)
changed self shown place serving d new same inside one =
    ap (map unit_of) (items-with_items self.units _ (length-set shown place _ ∙ ap length same))
    ∙ recorded_standing shown place serving d new (omega (arith, ap (λ rs. length (map unit_of rs)) same, inside)) one
    ∙ ap (λ rs. with_standing serving place (map unit_of rs)) same

held : (self : Register) (shown : List UnitRecord) (place : ℕ) (serving : Bool) (d new : UnitRecord) → shown ≡ self.units.items → place < length (units_of self) → unit_of new ≡ standing_as serving (unit_of (get_or shown place d)) → registered_capacity (map unit_of (with_items self.units (set shown place new)).items) ≤ 1000
held self shown place serving d new same inside one =
    let now = changed self shown place serving d new same inside one in
    omega (arith, ap registered_capacity now, capacity_standing serving place (units_of self) inside, self.capacity)

pub invariant_of-self : goal.invariant_of-self
invariant_of-self c = record { capacity = held c.args.self.now c.deref_mut.result.now c.args.place c.args.serving c.index-deref_mut-place.result _ c.deref_mut.ensures.value c.requires refl }

pub returns : goal.returns
returns c = changed c.args.self.now c.deref_mut.result.now c.args.place c.args.serving c.index-deref_mut-place.result _ c.deref_mut.ensures.value c.requires refl
