-- Rows taken into a ledger one by one. Assumes nothing.
use Rattle.std.proofs.Common.{◌≡◌, ℕ, ◌+◌, ◌≤◌, List, [], ◌∷◌, ◌++◌, length, Some, None, Option, sym, refl, ap, ◌∙◌, arith}
use Rattle.std.specs.Option.{option_map}
use Rattle.std.proofs.lemmas.List.{length_push}
use Rattle.rounding.specs.Tolerance.{raised}
use Rattle.rounding.specs.Adding.{added}
use Rattle.fleet.specs.Ledger.{Ledger}
use Rattle.fleet.specs.Refusals.{unless}
use Rattle.fleet.specs.Units.{new_unit}
use Rattle.indices.specs.declared.fault.Fault.{Fault}
use Rattle.indices.specs.declared.sheet.Rows.{Rows}
use Rattle.indices.specs.Fault.{Report, report}
use Rattle.indices.specs.Intake.{Intake, row_refusal, after_row, refused_row, taken, taken_sheet, Took}
use Rattle.indices.specs.Reader.{AtStart}
use Rattle.indices.specs.Row.{Row, states}
use Rattle.indices.specs.Rows.{remaining, RowRead}
use Rattle.indices.specs.Sheet.{Sheet, no_rows}

abbrev pub left : Ledger → ℕ → Option Report → Intake
left l n fault = record { ledger = l; added = n; fault = fault }

-- what is taken from a row on, by what the fleet says of the row
abbrev step : (ℕ → ℕ → ℕ) → Row → List Row → Option Report → Ledger → ℕ → Option ℕ → Intake
step answer row rows fault l n o =
    elim o [ None ↦ taken answer rows fault (after_row answer l row) (n + 1) | Some number ↦ left l n (Some (refused_row row.line number)) ]

taken_next : (answer : ℕ → ℕ → ℕ) (row : Row) (rows : List Row) (fault : Option Report) (l : Ledger) (n : ℕ) → row_refusal l row ≡ None → taken answer (row ∷ rows) fault l n ≡ taken answer rows fault (after_row answer l row) (n + 1)
unfolding taken
taken_next answer row rows fault l n h = ap (step answer row rows fault l n) h

taken_stop : (answer : ℕ → ℕ → ℕ) (row : Row) (rows : List Row) (fault : Option Report) (l : Ledger) (n number : ℕ) → row_refusal l row ≡ Some number → taken answer (row ∷ rows) fault l n ≡ left l n (Some (refused_row row.line number))
unfolding taken
taken_stop answer row rows fault l n number h = ap (step answer row rows fault l n) h

-- the sheet ends, with a fault or without
pub taken_rowless : (answer : ℕ → ℕ → ℕ) (s : Sheet) (fault : Option Fault) (l : Ledger) (n : ℕ) → s ≡ no_rows fault → taken_sheet answer s l n ≡ left l n (option_map report fault)
unfolding taken
taken_rowless answer s fault l n h = ap (λ t. taken_sheet answer t l n) h

refused_keeps : {A : Type 0} (o : Option ℕ) (number : ℕ) (before after : A) → o ≡ Some number → unless o before after ≡ before
refused_keeps o number before after h = ap (λ o. unless o before after) h

-- one row more, with the ledger that the add left
module _ (answer : ℕ → ℕ → ℕ) (was is : Rows) (row : Row) (read : RowRead was row is) (l : Ledger) (n : ℕ) (m : Ledger) (after : m ≡ after_row answer l row) where
  next : taken_sheet answer (remaining was) l n ≡ taken answer (row ∷ (remaining is).rows) (option_map report (remaining is).fault) l n
  next = (λ i. taken answer (read.rows i) (option_map report (read.fault i)) l n)

  pub taken_accepted : row_refusal l row ≡ None → taken_sheet answer (remaining is) m (n + 1) ≡ taken_sheet answer (remaining was) l n
  taken_accepted h = rw after (sym (next ∙ taken_next answer row _ _ l n h))

  -- a refused row leaves the ledger
  pub taken_refused : (told : Report) → option_map (refused_row row.line) (row_refusal l row) ≡ Some told → left m n (Some told) ≡ taken_sheet answer (remaining was) l n
  taken_refused told h = at (row_refusal l row) refl h
    where
      at : (o : Option ℕ) → row_refusal l row ≡ o → option_map (refused_row row.line) o ≡ Some told → left m n (Some told) ≡ taken_sheet answer (remaining was) l n
      at None is' h' = cc
      at (Some number) is' h' =
          (λ i. left ((after ∙ refused_keeps (row_refusal l row) number l _ is') i) n (sym h' i)) ∙ sym (next ∙ taken_stop answer row _ _ l n number is')

-- each row that is added is one unit more
grown : (answer : ℕ → ℕ → ℕ) (l : Ledger) (row : Row) → row_refusal l row ≡ None → length (after_row answer l row).units ≡ length l.units + 1
grown answer l row h =
    let pushed = length_push l.units (new_unit row.id row.«cap» (states row)) in
    ap (λ o. length (unless o l (record { units = l.units ++ new_unit row.id row.«cap» (states row) ∷ []; table = added answer (states row) l.table; tolerance = raised l.tolerance })).units) h ∙ pushed

Grows : Intake → Ledger → ℕ → Type 0
Grows i l n = length i.ledger.units + n ≡ length l.units + i.added

grows : (answer : ℕ → ℕ → ℕ) (rows : List Row) (fault : Option Report) (l : Ledger) (n : ℕ) → Grows (taken answer rows fault l n) l n
unfolding taken Grows
grows answer [] fault l n = refl
grows answer (row ∷ rows) fault l n = at (row_refusal l row) refl (grows answer rows fault (after_row answer l row) (n + 1))
  where
    at : (o : Option ℕ) → row_refusal l row ≡ o → Grows (taken answer rows fault (after_row answer l row) (n + 1)) (after_row answer l row) (n + 1) → Grows (taken answer (row ∷ rows) fault l n) l n
    at None h more = let one = grown answer l row h in rw (taken_next answer row rows fault l n h) (omega arith)
    at (Some number) h more = rw (taken_stop answer row rows fault l n number h) refl

-- from nothing added, the number added is the growth of the register
pub growth : (answer : ℕ → ℕ → ℕ) (s : Sheet) (l after : Ledger) (added : ℕ) (fault : Option Report) → Took (taken_sheet answer s l 0) after added fault → length after.units ≡ length l.units + added
unfolding Grows
growth answer s l after added fault h =
    let all = grows answer s.rows (option_map report s.fault) l 0 in
    omega (arith, all, ap (λ m. length m.units) h.ledger_is, h.added_is)

-- so far the rows before have been taken, and what is left gives the whole
pub record Going (answer : ℕ → ℕ → ℕ) (whole : Intake) (first rows : Rows) (l : Ledger) (n : ℕ) : Type 0 where
  pub same : taken_sheet answer (remaining rows) l n ≡ whole
  pub start : AtStart rows.reader
  pub bound : n + length rows.reader.rest.now ≤ length first.reader.rest.now

pub took : (i : Intake) (l : Ledger) (n : ℕ) (fault : Option Report) → left l n fault ≡ i → Took i l n fault
took i l n fault h = record { ledger_is = ap (λ j. j.ledger) h; added_is = ap (λ j. j.added) h; fault_is = ap (λ j. j.fault) h }

-- nothing is taken of a sheet that has no rows
pub took_rowless : (answer : ℕ → ℕ → ℕ) (s : Sheet) (fault : Option Fault) (l : Ledger) (n : ℕ) → n ≡ 0 → s ≡ no_rows fault → Took (taken_sheet answer s l 0) l n (option_map report fault)
took_rowless answer s fault l n none h =
    took _ l n (option_map report fault) (ap (λ m. left l m (option_map report fault)) none ∙ sym (taken_rowless answer s fault l 0 h))
