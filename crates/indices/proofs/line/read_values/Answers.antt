use Rattle.std.proofs.Common.{Ok, ap, subst, rules}
use Rattle.std.proofs.lemmas.Result.{on_err_weaker}
use Rattle.indices.specs.Reader.{Reads}
use Rattle.indices.proofs.Valuing.{kept_from, valuing_wrong, valuing_more}
use Rattle.indices.proofs.line.read_values.Goals as goal

pub loop-field-preserved : goal.loop-field-preserved
loop-field-preserved c =
    let read = subst (λ t. Reads c.loop-field.reader (Ok t) c.token.new.self) c.in-Field.is c.in_ok-field.ensures in
    let parsed = c.in_ok-value-in-Field.ensures in
    let pushed = c.try_push.ensures in
    valuing_more _ _ _ _ c.loop-field.invariant _ _ _ read _ _ parsed.0 parsed.1
    (kept_from _ _ _ c.try_push.result pushed.variant pushed.ok (on_err_weaker c.try_push.result (ap (λ v. v.items)) pushed.err) pushed.full)

pub returns-in_err-value-in-Field : goal.returns-in_err-value-in-Field
returns-in_err-value-in-Field c =
    let read = subst (λ t. Reads c.loop-field.reader (Ok t) c.token.new.self) c.in-Field.is c.in_ok-field.ensures in
    let told = valuing_wrong _ _ _ _ c.loop-field.invariant _ _ _ read _ c.in_err-value-in-Field.ensures in
    search rules
