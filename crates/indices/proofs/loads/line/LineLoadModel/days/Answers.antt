use Rattle.std.proofs.Common.{sym, ap, ◌∙◌}
use Rattle.indices.specs.Loads.{held_days}
use Rattle.indices.specs.StraightLine.{line_loads}
use Rattle.indices.specs.BoundedLoads.{length_as_loads}
use Rattle.indices.proofs.Loading.{length_line}
use Rattle.indices.proofs.loads.line.LineLoadModel.days.Goals as goal

pub returns : goal.returns
returns c =
    let line = c.args.self.now in
    c.clamp.ensures ∙ ap held_days (sym (length_line line.days line.high line.low)) ∙ sym (length_as_loads (line_loads line.days line.high line.low))
