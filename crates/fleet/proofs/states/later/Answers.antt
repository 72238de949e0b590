use Rattle.std.proofs.Common.{sym, ◌∙◌}
use Rattle.std.proofs.lemmas.Bool.{and_left}
use Rattle.fleet.proofs.Lawful.{later_more, later_all, and_true}
use Rattle.fleet.proofs.states.later.Goals as goal

pub returns-then-not-follows : goal.returns-then-not-follows
returns-then-not-follows c =
    let more = later_more c.args.capacity c.loop-state.before c.args.rest.now c.loop-state.state-index _ c.loop-state-test.true in
    sym (sym c.loop-state.invariant ∙ more ∙ and_left _ _ (sym c.if-not-follows.ensures))

pub loop-state-preserved : goal.loop-state-preserved
loop-state-preserved c =
    let more = later_more c.args.capacity c.loop-state.before c.args.rest.now c.loop-state.state-index _ c.loop-state-test.true in
    sym (sym c.loop-state.invariant ∙ more ∙ and_true _ _ (sym c.if-not-follows.ensures))

pub returns : goal.returns
returns c = sym (sym c.loop-state.invariant ∙ later_all _ _ c.args.rest.now _ c.loop-state-test.false)
