use Rattle.std.proofs.Common.{length}
use Rattle.indices.proofs.Naming.{Naming}
use Rattle.indices.proofs.names.read_names.Given as goal

abbrev pub invariant-loop-field : goal.invariant-loop-field
invariant-loop-field l = Naming l.initial.reader l.reader l.columns.items

abbrev pub decreases-loop-field : goal.decreases-loop-field
decreases-loop-field l = length l.reader.rest.now
