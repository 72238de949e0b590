use Rattle.rounding.proofs.Reverse.{Partly}
use Rattle.rounding.proofs.removal.remove.Given as goal

abbrev pub invariant-loop-k : goal.invariant-loop-k
invariant-loop-k g l = Partly (g.R.Rounding.answer l.rule) l.first l.rest l.greatest l.initial.entries l.entries l.k
