-- What a reader has still to read, and what each of its tokens says of that. Assumes nothing.
use Rattle.std.specs.Prelude.{◌≡◌, ℕ, ◌+◌, ◌<◌, false, cond, List, [], ◌∷◌, length, Some, None, Ok, Err, Option, Result}
use Rattle.indices.specs.declared.fault.Fault.{Fault}
use Rattle.indices.specs.declared.text.Reader.{Reader}
use Rattle.indices.specs.declared.text.Token.{Token}
use Rattle.indices.specs.declared.text.Token.TheVariants.{Field, LineEnd, SheetEnd}
use Rattle.indices.specs.End.{final}
use Rattle.indices.specs.Text.{Line, with_field, lines}

-- as lines of fields; the first is what is left of the line that is being read
abbrev pub unread : Reader → List Line
unread r = cond r.ended ([] ∷ lines r.rest.now) (lines r.rest.now)

-- a field is read, and the byte that ends it
pub record FieldRead (was : Reader) (bytes : List ℕ) (line place : ℕ) (is : Reader) : Type 0 where
  pub text : unread was ≡ with_field bytes (unread is)
  pub line_is : line ≡ was.line
  pub place_is : place ≡ was.place + 1
  pub same_line : is.line ≡ was.line
  pub next_place : is.place ≡ was.place + 1
  pub shorter : length is.rest.now < length was.rest.now

-- the line is at its end, and the reader goes on to the next
pub record LineEnded (was is : Reader) : Type 0 where
  pub text : unread was ≡ [] ∷ unread is
  pub next_line : is.line ≡ was.line + 1
  pub no_place : is.place ≡ 0
  pub not_ended : is.ended ≡ false
  pub some_place : 0 < was.place
  pub same : is.rest.now ≡ was.rest.now

-- only the line after the last line feed is left, and this is wrong with it
pub record Last (line : ℕ) (ls : List Line) (fault : Option Fault) : Type 0 where
  pub last : Line
  pub text : ls ≡ last ∷ []
  pub is : final line last ≡ fault

-- what each token says, and what a fault says
abbrev pub Reads : Reader → Result Token Fault → Reader → Type 0
Reads was (Ok (Field field)) is = FieldRead was field.bytes.now field.line field.place is
Reads was (Ok LineEnd) is = LineEnded was is
Reads was (Ok SheetEnd) is = Last was.line (unread was) None
Reads was (Err fault) is = Last was.line (unread was) (Some fault)

-- at the start of a line
pub record AtStart (r : Reader) : Type 0 where
  pub no_place : r.place ≡ 0
  pub unended : r.ended ≡ false
