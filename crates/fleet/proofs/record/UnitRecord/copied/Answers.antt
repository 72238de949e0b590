use Rattle.std.proofs.Common.{◌<◌, length, sym, ◌∙◌, subst}
use Rattle.std.proofs.lemmas.Bool.{false≢true}
use Rattle.fleet.proofs.Lawful.{lawful_many}
use Rattle.fleet.proofs.record.UnitRecord.copied.Goals as goal

pub unreachable-requires : goal.unreachable-requires
unreachable-requires c =
    let self = c.args.self.now in
    let many : 8 < length self.states.items = subst (λ states. 8 < length states) c.states.ensures c.in_default.ensures in
    false≢true (sym (lawful_many self.capacity self.states.items many) ∙ self.ruled)
