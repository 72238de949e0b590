use Rattle.std.proofs.Common.{sym, refl, ap, ◌∙◌, rules}
use Rattle.std.proofs.lemmas.Option.{MatchOption-at_some}
use Rattle.indices.specs.Row.{row_of}
use Rattle.indices.specs.Rows.{ValuesRead}
use Rattle.indices.specs.Sheet.{rate_fault}
use Rattle.indices.proofs.Next.{not_five, judged, row_read}
use Rattle.indices.proofs.sheet.Rows.next_row.Goals as goal
use Rattle.indices.proofs.sheet.Rows.next_row.Goals.{In-Some}

-- what `read_values` said of the line
read : (c : In-Some) → ValuesRead c.args.self.now.reader c.in-Some.values.items c.read_values.new.reader
read c = MatchOption-at_some _ (λ values. ValuesRead c.args.self.now.reader values.items c.read_values.new.reader) _ c.in-Some.is c.in_ok-values.ensures

pub returns-then-len-ne-COLUMNS : goal.returns-then-len-ne-COLUMNS
returns-then-len-ne-COLUMNS c =
    let d = (goal.at.returns-then-len-ne-COLUMNS c).In-Some in
    rw c.of_line.ensures (not_five c.args.self.now _ _ c.requires (read d) (λ e. c.if-len-ne-COLUMNS.true (c.len.ensures.value ∙ e)))

pub returns-in_err-new : goal.returns-in_err-new
returns-in_err-new c =
    let d = (goal.at.returns-in_err-new c).In-Some in
    let rates = ap (λ vs. rate_fault (row_of c.args.self.now.columns c.args.self.now.reader.line vs)) (sym c.deref.ensures.0) ∙ c.in_err-new.ensures in
    let told = judged c.args.self.now _ _ c.requires (read d) (sym c.len.ensures.value ∙ c.if-len-ne-COLUMNS.false) _ rates in
    search rules

pub returns : goal.returns
returns c =
    let d = (goal.at.returns c).In-Some in
    let told = ap (λ vs. rate_fault (row_of c.args.self.now.columns c.args.self.now.reader.line vs)) (sym c.deref.ensures.0) ∙ c.in_ok-new.ensures.1 in
    row_read c.args.self.now _ _ c.requires (read d) refl (sym c.len.ensures.value ∙ c.if-len-ne-COLUMNS.false) _
    (c.in_ok-new.ensures.0 ∙ ap (row_of c.args.self.now.columns c.args.self.now.reader.line) c.deref.ensures.0)
    told
