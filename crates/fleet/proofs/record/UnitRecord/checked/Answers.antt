use Rattle.std.proofs.Common.{sym, ◌∙◌, rules}
use Rattle.std.proofs.lemmas.Bool.{false≢true}
use Rattle.fleet.proofs.Lawful.{lawful_many}
use Rattle.fleet.proofs.record.UnitRecord.checked.Goals as goal

pub unreachable-requires : goal.unreachable-requires
unreachable-requires c = false≢true (sym (lawful_many c.args.capacity c.args.states.now (search rules)) ∙ sym c.if-not-lawful.ensures)
