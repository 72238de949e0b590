use Rattle.std.proofs.Common.{Some, sym, ap, ◌∙◌}
use Rattle.fleet.specs.Units.{blank}
use Rattle.fleet.specs.LookUp.{plain}
use Rattle.fleet.specs.Registers.{units_of}
use Rattle.fleet.proofs.Listing.{missing, found}
use Rattle.fleet.proofs.fleet.Fleet.unit.Goals as goal

pub returns-in_err-place : goal.returns-in_err-place
returns-in_err-place c =
    c.from_residual.ensures ∙ sym (missing c.args.identity (units_of c.args.self.now.register) (sym c.in_err-place.ensures.place))

pub returns : goal.returns
returns c =
    ap Some (c.plain.ensures ∙ ap plain (sym c.at.ensures))
    ∙ sym (found c.args.identity (units_of c.args.self.now.register) c.in_ok-place.place blank (sym c.in_ok-place.ensures.place))
