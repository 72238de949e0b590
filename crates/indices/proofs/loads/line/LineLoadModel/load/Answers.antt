use Rattle.std.proofs.Common.{min, sym, ap, ◌∙◌, arith}
use Rattle.indices.specs.Loads.{above_limit}
use Rattle.indices.specs.StraightLine.{line_loads}
use Rattle.indices.proofs.Loading.{length_line, line_at, as_loads_in, as_loads_out}
use Rattle.indices.proofs.loads.line.LineLoadModel.load.Goals as goal

pub returns-then-day-min : goal.returns-then-day-min
returns-then-day-min c =
    let line = c.args.self.now in
    let days = length_line line.days line.high line.low in
    sym (as_loads_out (line_loads line.days line.high line.low) c.args.day (omega arith))

pub returns : goal.returns
returns c =
    let line = c.args.self.now in
    let days = length_line line.days line.high line.low in
    let here = line_at line.days line.high line.low c.args.day (omega arith) in
    c.min-2.ensures ∙ ap (λ load. min load above_limit) (c.load_of.ensures ∙ sym here) ∙ sym (as_loads_in (line_loads line.days line.high line.low) c.args.day (omega arith))
