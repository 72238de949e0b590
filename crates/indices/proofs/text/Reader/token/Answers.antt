use Rattle.std.proofs.Common.{◌≡◌, ◌<◌, ◌≤◌, ◌⊎◌, false, length, sym, ◌∙◌, inl, inr, arith}
use Rattle.std.proofs.lemmas.Bool.{eqb-false}
use Rattle.indices.specs.Text.{lines, complete}
use Rattle.indices.proofs.Lines.{complete_any}
use Rattle.indices.proofs.Reading.{unfed}
use Rattle.indices.proofs.text.Reader.token.Goals as goal
use Rattle.indices.proofs.text.Reader.token.Goals.{else-self-gt1-via-then-self-gt1+else-is_empty, else-self-gt1-via-else-self-gt1, else-self-eq0-via-then-self-eq0+else-not-has_line_feed, else-self-eq0-via-else-self-eq0}

pub returns-then-not-has_line_feed : goal.returns-then-not-has_line_feed
returns-then-not-has_line_feed c =
    let why : (c.args.self.now.line ≤ 1) ⊎ (0 < length c.args.self.now.rest.now) = elim c.else-self-gt1.branch [
      | else-self-gt1-via-then-self-gt1+else-is_empty w ↦ inr (omega (arith, eqb-false _ 0 (sym w.if-is_empty.ensures)))
      | else-self-gt1-via-else-self-gt1 w ↦ inl w.if-self-gt1.false
    ]
    in
    let short : complete (lines c.args.self.now.rest.now) ≡ false = complete_any c.args.self.now.rest.now ∙ sym c.if-not-has_line_feed.ensures in
    rw c.of_line.ensures (unfed c.args.self.now c.if-self.false short why)

pub field-requires-clause-whole : goal.field-requires-clause-whole
field-requires-clause-whole c = elim c.else-self-eq0.branch [
  | else-self-eq0-via-then-self-eq0+else-not-has_line_feed w ↦ complete_any c.args.self.now.rest.now ∙ sym w.if-not-has_line_feed.ensures
  | else-self-eq0-via-else-self-eq0 w ↦ c.args.self.now.whole (omega arith) c.if-self.false
]
