use Rattle.std.proofs.Common.{sym}
use Rattle.indices.proofs.Loading.{peaks_made}
use Rattle.indices.proofs.loads.peaks.Peaks.new.Goals as goal

pub returns : goal.returns
returns c = peaks_made c.args.loads.now (sym c.if-not-day_count.ensures) (sym c.if-not-within_limit.ensures)
