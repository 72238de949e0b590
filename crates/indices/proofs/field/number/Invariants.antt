use Rattle.std.proofs.Common.{◌≡◌, ◌^◌, ◌<◌, take}
use Rattle.indices.specs.Value.{value}
use Rattle.indices.proofs.field.number.Given as goal

abbrev pub invariant-loop-b : goal.invariant-loop-b
invariant-loop-b l = (l.n ≡ value (take l.b-index l.bytes)) × (l.n < 10 ^ l.b-index)
