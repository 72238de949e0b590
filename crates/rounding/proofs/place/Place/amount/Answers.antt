use Rattle.std.proofs.Common.{◌≡◌, ◌+◌, ◌*◌, ◌≤◌, take, sym, arith}
use Rattle.rounding.specs.Mixture.{amount}
use Rattle.rounding.proofs.Amounts.{amount_none, amount_more, amount_fits}
use Rattle.rounding.proofs.place.Place.amount.Goals as goal

-- the sum with one more term
next : (c : goal.After-entry_before) → c.loop-state.sum + c.from.result * c.entry_before.result ≡ amount (take (c.loop-state.state-index + 1) c.args.states.now) c.args.self.now.entries.now c.args.self.now.k
next c =
    let more = amount_more c.args.states.now c.args.self.now.entries.now c.args.self.now.k c.loop-state.state-index _ c.loop-state-test.true in
    rw (c.loop-state.invariant, c.from.ensures, c.entry_before.ensures) (sym more)

fits : (c : goal.After-entry_before) → c.loop-state.sum + c.from.result * c.entry_before.result ≤ 1_000_000_000_000_000_000
fits c = rw (next c) (amount_fits c.args.self.now.entries.now c.args.self.now.fit c.args.states.now c.args.self.now.k (c.loop-state.state-index + 1) c.requires)

pub overflow_mul-sum : goal.overflow_mul-sum
overflow_mul-sum c = omega (arith, fits c)

pub overflow_add-sum : goal.overflow_add-sum
overflow_add-sum c = omega (arith, fits c)

pub loop-state-init : goal.loop-state-init
loop-state-init c = sym (amount_none c.args.self.now.entries.now c.args.self.now.k)

pub loop-state-preserved : goal.loop-state-preserved
loop-state-preserved c = next c
