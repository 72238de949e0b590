use Rattle.rounding.proofs.Recursion.{Partly}
use Rattle.rounding.proofs.table.add.Given as goal

abbrev pub invariant-loop-k : goal.invariant-loop-k
invariant-loop-k g l = Partly (g.R.Rounding.answer l.rule) l.states l.initial.entries l.entries l.k
