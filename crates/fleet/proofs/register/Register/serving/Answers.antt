use Rattle.std.proofs.Common.{◌≡◌, map, length, count_by, sym, ap, ◌∙◌, rules}
use Rattle.fleet.specs.Units.{unit_of, in_service}
use Rattle.fleet.specs.declared.record.UnitRecord.{UnitRecord}
use Rattle.fleet.proofs.Building.{serving_counted}
use Rattle.fleet.proofs.register.Register.serving.Goals as goal

counted : (c : goal.After-count) → c.count.result ≡ count_by (λ (r : UnitRecord). r.serving) c.as_slice-units.result.now
counted c = search rules

pub returns-clause-value : goal.returns-clause-value
returns-clause-value c = counted c ∙ sym (serving_counted c.as_slice-units.result.now) ∙ ap (λ records. length (in_service (map unit_of records))) c.as_slice-units.ensures.value
