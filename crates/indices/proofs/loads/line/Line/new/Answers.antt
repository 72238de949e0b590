use Rattle.std.proofs.Common.{sym, arith}
use Rattle.indices.proofs.Loading.{line_made}
use Rattle.indices.proofs.loads.line.Line.new.Goals as goal

pub returns : goal.returns
returns c = line_made c.args.days c.args.high c.args.low (sym c.if-not-day_count.ensures) (omega arith) (omega arith)
