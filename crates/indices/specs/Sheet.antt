-- What a sheet says: its rows up to its first fault. Assumes nothing.
use Rattle.std.specs.Prelude.{ℕ, ◌+◌, cond, List, [], ◌∷◌, map, length, Some, None, Ok, Err, Option, Result, ◌==◌, nat_lt}
use Rattle.std.specs.Option.{option_or}
use Rattle.indices.specs.declared.fault.Fault.{Fault}
use Rattle.indices.specs.declared.fault.Reason.TheVariants.{TooLong, Names, FieldCount, Rates}
use Rattle.indices.specs.declared.names.Column.{Column}
use Rattle.indices.specs.Names.{order}
use Rattle.indices.specs.End.{final}
use Rattle.indices.specs.Fault.{fault_at, fault_of_line, fault_of_sheet}
use Rattle.indices.specs.Row.{Row, row_of, rates}
use Rattle.indices.specs.Text.{Line, lines}
use Rattle.indices.specs.Value.{value, first_wrong}

pub record Sheet : Type 0 where
  pub rows : List Row
  pub fault : Option Fault

-- no row, and perhaps a fault
abbrev pub no_rows : Option Fault → Sheet
no_rows fault = record { rows = []; fault = fault }

abbrev pub count_fault : ℕ → Line → Option Fault
count_fault line fields = cond (length fields == 5) None (Some (fault_of_line FieldCount line))

abbrev pub rate_fault : Row → Option Fault
rate_fault row = cond (rates row) None (Some (fault_of_line Rates row.line))

-- the first fault of a line of values
abbrev pub line_fault : ℕ → Line → Row → Option Fault
line_fault line fields row = option_or (first_wrong line 1 fields) (option_or (count_fault line fields) (rate_fault row))

-- a row in front, unless its line has a fault
abbrev pub with_row : Option Fault → Row → Sheet → Sheet
with_row None row later = record { rows = row ∷ later.rows; fault = later.fault }
with_row (Some fault) row later = no_rows (Some fault)

-- the lines below line 1, from a line on; the last is what follows the last line feed
abbrev pub below : List Column → ℕ → List Line → Sheet
below columns line [] = no_rows None
below columns line (l ∷ []) = no_rows (final line l)
below columns line (l ∷ m ∷ ls) = let row : Row = row_of columns line (map value l) in with_row (line_fault line l row) row (below columns (line + 1) (m ∷ ls))

-- the lines below line 1, with what line 1 gives: the columns, or the place of what is wrong there
abbrev pub below_names : Result (List Column) ℕ → List Line → Sheet
below_names (Ok columns) ls = below columns 2 ls
below_names (Err place) ls = no_rows (Some (fault_at Names 1 place))

abbrev pub text : List Line → Sheet
text [] = no_rows None
text (l ∷ []) = no_rows (final 1 l)
text (l ∷ m ∷ ls) = below_names (order [] 1 l) (m ∷ ls)

-- a sheet has at most 65,535 bytes
abbrev pub sheet : List ℕ → Sheet
sheet bytes = cond (nat_lt 65535 (length bytes)) (no_rows (Some (fault_of_sheet TooLong))) (text (lines bytes))
