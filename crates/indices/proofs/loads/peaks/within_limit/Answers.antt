use Rattle.std.proofs.Common.{nat_le, rules, tests}
use Rattle.std.proofs.lemmas.Iterator.{YieldsList-from_slice}
use Rattle.std.proofs.lemmas.Iterator.Search.{all_from_yields_List}
use Rattle.indices.specs.Loads.{limit, all_within_limit}
use Rattle.indices.proofs.loads.peaks.within_limit.Goals as goal

pub returns : goal.returns
unfolding all_within_limit
returns c = all_from_yields_List (λ load. nat_le load limit) _ _ _ c.all.ensures.ran (YieldsList-from_slice c.args.loads.now cc) (λ x b q k. search (rules, tests))
