use Rattle.std.proofs.Common.{◌≡◌, ℕ, ◌≤◌, map, take}
use Rattle.std.specs.Fn.{FnReturnsAt}
use Rattle.fleet.specs.Units.{GeneratingUnit, unit_of, total, registered_capacity}
use Rattle.fleet.specs.declared.record.UnitRecord.{UnitRecord}
use Rattle.fleet.proofs.register.Register.total.Given as goal

abbrev pub invariant-loop-unit : goal.invariant-loop-unit
invariant-loop-unit g l =
    let first = map unit_of (take l.unit-index l.unit-items) in
    record {
      held : l.sum ≤ registered_capacity first;
      value : (counts : GeneratingUnit → ℕ) → ((u : UnitRecord) (n : ℕ) → FnReturnsAt g.F.Fn l.share u n → n ≡ counts (unit_of u)) → l.sum ≡ total counts first;
    }
