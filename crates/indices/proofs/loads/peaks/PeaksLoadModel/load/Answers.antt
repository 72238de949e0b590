use Rattle.std.proofs.Common.{sym, arith}
use Rattle.indices.proofs.Loading.{as_loads_in, as_loads_out}
use Rattle.indices.proofs.loads.peaks.PeaksLoadModel.load.Goals as goal

pub returns-then-place-min : goal.returns-then-place-min
returns-then-place-min c = sym (as_loads_out c.args.self.now.loads.now c.args.day (omega arith))

pub returns : goal.returns
returns c = let here = as_loads_in c.args.self.now.loads.now c.args.day (omega arith) in omega arith
