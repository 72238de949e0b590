use Rattle.std.proofs.Common.{sym, ◌∙◌}
use Rattle.indices.specs.BoundedLoads.{length_grown}
use Rattle.indices.proofs.loads.growth.GrowthLoadModel.days.Goals as goal

pub returns : goal.returns
returns g c = c.days.ensures ∙ sym (length_grown c.args.self.now.percent _)
