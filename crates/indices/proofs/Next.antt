-- What a line of values says of the rows that are left. Assumes nothing.
use Rattle.std.proofs.Common.{◌≡◌, ℕ, ◌+◌, min, List, ◌∷◌, map, length, Some, None, Option, sym, ap, ◌∙◌, subst, arith}
use Rattle.std.specs.Option.{option_or}
use Rattle.std.proofs.lemmas.List.{length-take, length-map, take_all}
use Rattle.std.proofs.lemmas.Bool.{cond-true, cond-false, eq-eqb, ne_eqb}
use Rattle.indices.specs.declared.fault.Fault.{Fault}
use Rattle.indices.specs.declared.fault.Reason.TheVariants.{FieldCount}
use Rattle.indices.specs.declared.names.Column.{Column}
use Rattle.indices.specs.declared.sheet.Rows.{Rows}
use Rattle.indices.specs.declared.text.Reader.{Reader}
use Rattle.indices.specs.Fault.{fault_of_line}
use Rattle.indices.specs.Reader.{unread, AtStart}
use Rattle.indices.specs.Row.{Row, row_of}
use Rattle.indices.specs.Rows.{remaining, ValuesRead, RowRead}
use Rattle.indices.specs.Sheet.{Sheet, no_rows, count_fault, rate_fault, with_row, below}
use Rattle.indices.specs.Text.{Line}
use Rattle.indices.specs.Value.{value, first_wrong}
use Rattle.indices.proofs.Lines.{Begun, lines_begun}
use Rattle.indices.proofs.Reading.{unread_open}

below_line : (columns : List Column) (line : ℕ) (l : Line) (ls : List Line) → Begun ls → first_wrong line 1 l ≡ None → below columns line (l ∷ ls) ≡ with_row (option_or (count_fault line l) (rate_fault (row_of columns line (map value l)))) (row_of columns line (map value l)) (below columns (line + 1) ls)
below_line columns line l ls b right =
    let row : Row = row_of columns line (map value l) in
    let ms : List Line = (b.field ∷ b.fields) ∷ b.later in
    ap (λ x. below columns line (l ∷ x)) b.is ∙ ap (λ (o : Option Fault). with_row (option_or o (option_or (count_fault line l) (rate_fault row))) row (below columns (line + 1) ms)) right ∙ ap (λ x. with_row (option_or (count_fault line l) (rate_fault row)) row (below columns (line + 1) x)) (sym b.is)

pub remaining_unread : (rows : Rows) → AtStart rows.reader → remaining rows ≡ below rows.columns rows.reader.line (unread rows.reader)
remaining_unread rows start = ap (below rows.columns rows.reader.line) (sym (unread_open rows.reader start.unended))

module _ (was : Rows) (mid : Reader) (values : List ℕ) (here : AtStart was.reader) (read : ValuesRead was.reader values mid) where
  abbrev line : ℕ
  line = was.reader.line

  abbrev row : Row
  row = row_of was.columns line (map value read.fields)

  next : remaining was ≡ with_row (option_or (count_fault line read.fields) (rate_fault row)) row (below was.columns (line + 1) (unread mid))
  next =
      remaining_unread was here ∙ ap (below was.columns line) read.text ∙ below_line was.columns line read.fields (unread mid) (subst Begun (sym (unread_open mid read.start.unended)) (lines_begun mid.rest.now)) read.right

  length_kept : length values ≡ min 6 (length read.fields)
  length_kept = ap length read.kept ∙ length-take 6 (map value read.fields) ∙ ap (min 6) (length-map read.fields value)

  pub not_five : (length values ≡ 5 → ⊥) → remaining was ≡ no_rows (Some (fault_of_line FieldCount line))
  not_five other =
      next ∙ ap (λ o. with_row (option_or o (rate_fault row)) row (below was.columns (line + 1) (unread mid))) (cond-false _ _ _ (ne_eqb (length read.fields) 5 (λ e. other (omega (arith, length_kept)))))

  module _ (five : length values ≡ 5) where
    all_five : length read.fields ≡ 5
    all_five = omega (arith, length_kept)

    same_row : row_of was.columns line values ≡ row
    same_row =
        let long = length-map read.fields value in
        ap (row_of was.columns line) (read.kept ∙ take_all 6 (map value read.fields) (omega (arith, all_five)))

    pub judged : (o : Option Fault) → rate_fault (row_of was.columns line values) ≡ o → remaining was ≡ with_row o (row_of was.columns line values) (below was.columns (line + 1) (unread mid))
    judged o h =
        next ∙ ap (λ o. with_row (option_or o (rate_fault row)) row (below was.columns (line + 1) (unread mid))) (cond-true _ _ _ (eq-eqb (length read.fields) 5 all_five)) ∙ (λ i. with_row (rate_fault (sym same_row i)) (sym same_row i) (below was.columns (line + 1) (unread mid))) ∙ ap (λ o. with_row o (row_of was.columns line values) (below was.columns (line + 1) (unread mid))) h

pub row_read : (was is : Rows) (values : List ℕ) (here : AtStart was.reader) (read : ValuesRead was.reader values is.reader) → is.columns ≡ was.columns → length values ≡ 5 → (row : Row) → row ≡ row_of was.columns was.reader.line values → rate_fault (row_of was.columns was.reader.line values) ≡ None → RowRead was row is
row_read was is values here read same five row made good =
    let later : below was.columns (was.reader.line + 1) (unread is.reader) ≡ remaining is =
    (λ i. below (sym same i) (sym read.line i) (unread_open is.reader read.start.unended i)) in
    let says : remaining was ≡ with_row None row (remaining is) =
    judged was is.reader values here read five None good ∙ (λ i. with_row None (sym made i) (later i)) in
    record {
      rows = ap (λ (s : Sheet). s.rows) says;
      fault = ap (λ (s : Sheet). s.fault) says;
      start = read.start;
      shorter = read.shorter;
    }
