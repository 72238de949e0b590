-- What the readers of whole lines promise, and what is left of a sheet. Assumes nothing.
use Rattle.std.specs.Prelude.{◌≡◌, ℕ, ◌+◌, ◌<◌, List, ◌∷◌, map, length, take, None}
use Rattle.indices.specs.declared.names.Column.{Column}
use Rattle.indices.specs.declared.row.Row.{Row as RowHeld}
use Rattle.indices.specs.declared.sheet.Rows.{Rows}
use Rattle.indices.specs.declared.text.Reader.{Reader}
use Rattle.indices.specs.Reader.{unread, AtStart}
use Rattle.indices.specs.Row.{Row}
use Rattle.indices.specs.Sheet.{Sheet, below, text}
use Rattle.indices.specs.Text.{Line, lines}
use Rattle.indices.specs.Value.{value, first_wrong}

-- line 1 holds these columns, and the lines below it are left
pub record NamesRead (was : Reader) (columns : List Column) (is : Reader) : Type 0 where
  pub says : text (unread was) ≡ below columns 2 (unread is)
  pub five : length columns ≡ 5
  pub start : AtStart is
  pub line : is.line ≡ 2

-- each field of a line is a value, and the lines below it are left; six values are enough to tell that a line has too many
pub record ValuesRead (was : Reader) (values : List ℕ) (is : Reader) : Type 0 where
  pub fields : Line
  pub text : unread was ≡ fields ∷ unread is
  pub right : first_wrong was.line 1 fields ≡ None
  pub kept : values ≡ take 6 (map value fields)
  pub start : AtStart is
  pub line : is.line ≡ was.line + 1
  pub shorter : length is.rest.now < length was.rest.now

-- what a row that is held says
abbrev pub row_says : RowHeld → Row
row_says r = record { line = r.line; id = r.id; «cap» = r.«cap»; rate = r.rate; part = r.part; prate = r.prate }

-- what the bytes that are left say, from their line on
abbrev pub remaining : Rows → Sheet
remaining rows = below rows.columns rows.reader.line (lines rows.reader.rest.now)

-- a row is read, and the others and the fault are left
pub record RowRead (was : Rows) (row : Row) (is : Rows) : Type 0 where
  pub rows : (remaining was).rows ≡ row ∷ (remaining is).rows
  pub fault : (remaining was).fault ≡ (remaining is).fault
  pub start : AtStart is.reader
  pub shorter : length is.reader.rest.now < length was.reader.rest.now
