use Rattle.std.proofs.Common.{◌≡◌, ◌*◌, ◌<◌, ◌≤◌, length, get_or, sym, ap, ◌∙◌, add-mul, zero-mul, arith, below_more}
use Rattle.std.proofs.lemmas.List.{take_all}
use Rattle.std.proofs.lemmas.Result.{err_from_is_err_and}
use Rattle.std.proofs.lemmas.Bool.{ltb-false}
use Rattle.rounding.specs.Table.{full}
use Rattle.fleet.specs.Fleets.{ledger_of}
use Rattle.fleet.specs.declared.refusal.Refusal.TheVariants.{AboveLimit}
use Rattle.fleet.proofs.Refusing.{accepted}
use Rattle.indices.specs.Loads.{limit}
use Rattle.indices.specs.Days.{lost_days}
use Rattle.indices.proofs.Losing.{loss_le, lost_none, lost_more, limit_kept, limit_passed}
use Rattle.indices.proofs.lost_load.days.Goals as goal

pub loop-day-init : goal.loop-day-init
loop-day-init g c =
    (sym (lost_none (ledger_of c.args.fleet.now) (g.L.LoadModel.loads c.args.model.now)), omega arith, sym (zero-mul c.args.fleet.now.tolerance), λ day h. absurd (omega arith))

pub returns-in_err-load : goal.returns-in_err-load
returns-in_err-load g c =
    let p = err_from_is_err_and c.from_residual.result c.from_residual.ensures.1 in
    rw (p.1, p.2) (limit_passed (g.L.LoadModel.loads c.args.model.now) c.loop-day.day (omega arith) _ c.in_err-load.ensures)

pub overflow_add-sum : goal.overflow_add-sum
overflow_add-sum g c =
    let few = (g.L.LoadModel.bounded c.args.model.now).few in
    let small : c.loss-parts.result.0 ≤ full = rw c.loss-parts.ensures.parts (loss_le (ledger_of c.args.fleet.now) c.args.fleet.now.table.certain c.args.fleet.now.table.falling _) in
    omega arith

pub loop-day-preserved : goal.loop-day-preserved
loop-day-preserved g c =
    let loads = g.L.LoadModel.loads c.args.model.now in
    let fleet = c.args.fleet.now in
    let day = c.loop-day.day in
    let inside : day < length loads = omega arith in
    let told = c.in_ok-load.ensures in
    let small : c.loss-parts.result.0 ≤ full = rw c.loss-parts.ensures.parts (loss_le (ledger_of c.args.fleet.now) c.args.fleet.now.table.certain c.args.fleet.now.table.falling _) in
    let here = ltb-false limit (get_or loads day 0) (accepted _ AboveLimit told.0) in
    let more = lost_more (ledger_of fleet) loads day inside in (
      rw (c.loop-day.invariant.0, c.loss-parts.ensures.parts, told.1) (sym more),
      omega arith,
      omega (arith, add-mul day 1 fleet.tolerance),
      below_more _ _ c.loop-day.invariant.3 here,
    )

pub returns : goal.returns
returns g c =
    let loads = g.L.LoadModel.loads c.args.model.now in
    let whole = take_all c.loop-day.day loads (omega arith) in
    let level : c.loop-day.day ≡ length loads = omega arith in (
      limit_kept loads (λ day h. c.loop-day.invariant.3 day (omega arith)),
      record {
        sum = c.loop-day.invariant.0 ∙ ap (lost_days (ledger_of c.args.fleet.now)) whole;
        bound = c.loop-day.invariant.2 ∙ ap (λ days. days * c.args.fleet.now.tolerance) level;
      },
    )
