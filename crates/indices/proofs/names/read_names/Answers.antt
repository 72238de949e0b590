use Rattle.std.proofs.Common.{◌≡◌, Some, Ok, sym, ap, ◌∙◌, subst, arith, rules}
use Rattle.indices.specs.Names.{column, fresh}
use Rattle.indices.specs.Reader.{FieldRead, LineEnded, Reads}
use Rattle.indices.specs.Sheet.{no_rows}
use Rattle.indices.proofs.Naming.{naming_wrong, naming_room, naming_more, naming_told}
use Rattle.indices.proofs.names.read_names.Goals as goal
use Rattle.indices.proofs.names.read_names.Goals.{In-Field, In-LineEnd, In_ok-fresh_column-in-Field}

-- what `token` said of the field
read : (c : In-Field) → FieldRead c.loop-field.reader c.in-Field.field.bytes.now c.in-Field.field.line c.in-Field.field.place c.token.new.self
read c = subst (λ t. Reads c.loop-field.reader (Ok t) c.token.new.self) c.in-Field.is c.in_ok-field.ensures

ended : (c : In-LineEnd) → LineEnded c.loop-field.reader c.token.new.self
ended c = subst (λ t. Reads c.loop-field.reader (Ok t) c.token.new.self) c.in-LineEnd.is c.in_ok-field.ensures

new : (c : In_ok-fresh_column-in-Field) → fresh c.loop-field.columns.items (column c.in-Field.field.bytes.now) ≡ Some c.in_ok-fresh_column-in-Field.field-0
new c = ap (λ l. fresh l (column c.in-Field.field.bytes.now)) (sym c.deref.ensures.0) ∙ c.in_ok-fresh_column-in-Field.ensures

pub push-requires : goal.push-requires
push-requires c = (omega arith, naming_room _ _ c.token.new.self _ c.loop-field.invariant _ _ _ (read (goal.at.push-requires c).In-Field) _ (new c))

pub loop-field-preserved : goal.loop-field-preserved
loop-field-preserved c =
    naming_more _ _ _ _ c.loop-field.invariant _ _ _ (read (goal.at.loop-field-preserved c).In-Field) _ (new (goal.at.loop-field-preserved c).In_ok-fresh_column-in-Field) _ c.push.ensures.items

pub returns-in_err-fresh_column-in-Field : goal.returns-in_err-fresh_column-in-Field
returns-in_err-fresh_column-in-Field c =
    let told = c.in_err-fresh_column-in-Field.ensures in
    let bad = ap (λ l. fresh l (column c.in-Field.field.bytes.now)) (sym c.deref.ensures.0) ∙ told.0 in
    let says = naming_wrong _ _ c.token.new.self _ c.loop-field.invariant _ _ _ (read (goal.at.returns-in_err-fresh_column-in-Field c).In-Field) bad ∙ ap (λ f. no_rows (Some f)) (sym told.1) in
    search rules

pub returns : goal.returns
returns c =
    naming_told _ _ c.token.new.self _ c.loop-field.invariant (ended (goal.at.returns c).In-LineEnd) c.into_inner.result c.map_err.result _
    (λ e y q. search rules) c.into_inner.ensures.variant c.into_inner.ensures.ok c.map_err.ensures.cases
