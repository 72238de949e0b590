use Rattle.std.proofs.Common.{sym, ◌∙◌}
use Rattle.indices.specs.BoundedLoads.{length_as_loads}
use Rattle.indices.proofs.loads.peaks.PeaksLoadModel.days.Goals as goal

pub returns : goal.returns
returns c = c.clamp.ensures ∙ sym (length_as_loads c.args.self.now.loads.now)
