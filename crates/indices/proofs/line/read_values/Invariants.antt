use Rattle.std.proofs.Common.{length}
use Rattle.indices.proofs.Valuing.{Valuing}
use Rattle.indices.proofs.line.read_values.Given as goal

abbrev pub invariant-loop-field : goal.invariant-loop-field
invariant-loop-field l = Valuing l.initial.reader l.reader l.values.items

abbrev pub decreases-loop-field : goal.decreases-loop-field
decreases-loop-field l = length l.reader.rest.now
