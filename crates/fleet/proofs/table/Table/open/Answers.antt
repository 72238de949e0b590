use Rattle.std.proofs.Common.{refl}
use Rattle.fleet.proofs.Opening.{open_falling}
use Rattle.fleet.proofs.table.Table.open.Goals as goal

pub invariant_of-result : goal.invariant_of-result
invariant_of-result c = record { places = refl; certain = refl; falling = open_falling }
