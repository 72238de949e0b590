use Rattle.std.proofs.Common.{sym, ◌∙◌, arith, rules}
use Rattle.std.proofs.lemmas.Option.{MatchOption-at_some, MatchOption-at_none}
use Rattle.fleet.specs.Fleets.{ledger_of}
use Rattle.indices.specs.Rows.{row_says, RowRead}
use Rattle.indices.proofs.Taking.{taken_rowless, taken_accepted, taken_refused, took, took_rowless}
use Rattle.indices.proofs.unit_intake.take_sheet.Given as given
use Rattle.indices.proofs.unit_intake.take_sheet.Goals as goal
use Rattle.indices.proofs.unit_intake.take_sheet.Goals.{In-Some}

-- the row that was read
read : (g : given.Over) (c : In-Some g) → RowRead c.loop-row.rows (row_says c.in-Some.row) c.next_row.new.self
read g c = MatchOption-at_some _ (λ row. RowRead c.loop-row.rows (row_says row) c.next_row.new.self) _ c.in-Some.is c.in_ok-row.ensures

pub returns-in_err-rows : goal.returns-in_err-rows
returns-in_err-rows g c =
    let ended = took_rowless (g.R.Rounding.answer c.args.rule.now) _ _ (ledger_of c.args.fleet.now) _ c.requires c.in_err-rows.ensures in
    search rules

pub returns-in_err-row : goal.returns-in_err-row
returns-in_err-row g c =
    let ended = took _ _ _ _ (sym (taken_rowless _ _ _ (ledger_of c.loop-row.fleet) c.loop-row.added c.in_err-row.ensures) ∙ c.loop-row.invariant.same) in
    search rules

pub returns-in_err-take_row : goal.returns-in_err-take_row
returns-in_err-take_row g c =
    let row = read g (goal.at.returns-in_err-take_row g c).In-Some in
    let refused = taken_refused _ c.loop-row.rows c.next_row.new.self (row_says c.in-Some.row) row (ledger_of c.loop-row.fleet) c.loop-row.added _ c.take_row.ensures.after _ c.in_err-take_row.ensures.answer in
    let ended = took _ _ _ _ (refused ∙ c.loop-row.invariant.same) in
    search rules

pub loop-row-preserved : goal.loop-row-preserved
loop-row-preserved g c =
    let row = read g (goal.at.loop-row-preserved g c).In-Some in
    let accepted = taken_accepted _ c.loop-row.rows c.next_row.new.self (row_says c.in-Some.row) row (ledger_of c.loop-row.fleet) c.loop-row.added _ c.take_row.ensures.after c.in_ok-take_row.ensures.answer in
    record {
      same = accepted ∙ c.loop-row.invariant.same;
      start = row.start;
      bound = omega (arith, c.loop-row.invariant.bound, row.shorter);
    }

pub returns : goal.returns
returns g c =
    took _ _ _ _
    (sym (taken_rowless _ _ _ (ledger_of c.loop-row.fleet) c.loop-row.added (MatchOption-at_none _ (λ row. RowRead c.loop-row.rows (row_says row) c.next_row.new.self) c.in_default.is c.in_ok-row.ensures)) ∙ c.loop-row.invariant.same)
