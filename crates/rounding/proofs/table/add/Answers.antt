use Rattle.std.proofs.Common.{◌≡◌, ◌+◌, ◌-◌, subst, arith}
use Rattle.rounding.proofs.Recursion.{Partly, Added, partly_le, partly_more, added_is, added_certain, added_falling, added_zeros, added_within}
use Rattle.rounding.proofs.table.add.Goals as goal

pub invariant_of-place : goal.invariant_of-place
invariant_of-place g c = record {
  within = omega arith;
  fit = partly_le _ (g.met.R.Rounding.close c.args.rule.now) (g.met.R.Rounding.rising c.args.rule.now) _ c.requires.shares _ c.requires.certain c.requires.falling _ _ c.loop-k.invariant;
}

pub loop-k-preserved : goal.loop-k-preserved
loop-k-preserved g c =
    let rule = c.args.rule.now in
    let here : c.loop-k.k ≡ c.loop-k.k - 1 + 1 = omega arith in
    partly_more _ (g.met.R.Rounding.close rule) (g.met.R.Rounding.rising rule) _ c.requires.shares _ c.requires.certain c.requires.falling _ _ _ (omega arith)
    (subst (Partly _ _ _ _) here c.loop-k.invariant)
    (rw c.amount.ensures at c.round.ensures.value)

pub returns : goal.returns
returns g c =
    let rule = c.args.rule.now in
    let close = g.met.R.Rounding.close rule in
    let rising = g.met.R.Rounding.rising rule in
    let p = c.requires in
    let made : Added (g.R.Rounding.answer rule) c.args.states.now c.args.entries.now c.loop-k.entries = record { places = c.loop-k.invariant.places; entries = λ k h. c.loop-k.invariant.made k (omega arith) h } in
    record {
      entries = added_is _ _ _ _ made;
      certain = added_certain _ close rising _ p.shares _ p.certain p.falling _ made;
      falling = added_falling _ close rising _ p.shares _ p.certain p.falling _ made;
      zeros = added_zeros _ close rising _ p.shares _ p.certain p.falling _ made;
      error = added_within _ close rising _ p.shares _ p.certain p.falling _ made;
    }
