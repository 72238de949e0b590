use Rattle.std.proofs.Common.{sym, ap, ◌∙◌}
use Rattle.indices.specs.Growing.{grown}
use Rattle.indices.specs.BoundedLoads.{grown_at}
use Rattle.indices.proofs.loads.growth.GrowthLoadModel.load.Goals as goal

pub returns : goal.returns
returns g c =
    let percent = c.args.self.now.percent in
    c.grown.ensures ∙ ap (grown percent) c.load.ensures ∙ sym (grown_at percent _ c.args.day)
