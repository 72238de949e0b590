use Rattle.std.proofs.Common.{eqb, sym, ap, ◌∙◌, rules}
use borrow.Author.Tests.{tests}
use Rattle.std.proofs.lemmas.Iterator.{YieldsList-from_slice}
use Rattle.std.proofs.lemmas.Iterator.Search.{position_from_yields_List}
use Rattle.fleet.specs.LookUp.{place}
use Rattle.fleet.specs.declared.record.UnitRecord.{UnitRecord}
use Rattle.fleet.proofs.Listing.{place_recorded}
use Rattle.fleet.proofs.register.Register.find.Goals as goal

pub returns-clause-place : goal.returns-clause-place
returns-clause-place c =
    let records = c.registered.result.now in
    position_from_yields_List (λ (r : UnitRecord). eqb r.identity c.args.identity) _ _ _ c.position.ensures.ran (YieldsList-from_slice records cc) (λ x b q k. search (rules, tests))
    ∙ sym (place_recorded c.args.identity records) ∙ ap (place c.args.identity) c.registered.ensures
