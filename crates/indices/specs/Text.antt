-- A text as its lines, a line as its fields, a field as its bytes. Assumes nothing.
use Rattle.std.specs.Prelude.{ℕ, Bool, true, false, List, [], ◌∷◌}
use Rattle.indices.specs.declared.byte.Kind.{Kind}
use Rattle.indices.specs.declared.byte.Kind.TheVariants.{Comma, LineFeed, Digit, Other}
use Rattle.indices.specs.Byte.{kind}

abbrev pub Line : Type 0
Line = List (List ℕ)

-- the lines with one more field in front of the first; a text has at least one line
abbrev pub with_field : List ℕ → List Line → List Line
with_field f [] = []
with_field f (l ∷ ls) = (f ∷ l) ∷ ls

-- the lines with one more byte in front of the first field; a line has at least one field
abbrev pub with_byte : ℕ → List Line → List Line
with_byte b [] = []
with_byte b ([] ∷ ls) = [] ∷ ls
with_byte b ((f ∷ fs) ∷ ls) = ((b ∷ f) ∷ fs) ∷ ls

-- the lines with one more byte in front of the text
abbrev pub begun : Kind → ℕ → List Line → List Line
begun Comma b ls = with_field [] ls
begun LineFeed b ls = ([] ∷ []) ∷ ls
begun (Digit d) b ls = with_byte b ls
begun Other b ls = with_byte b ls

-- the last line is what follows the last line feed: one empty field where nothing does
abbrev pub lines : List ℕ → List Line
lines [] = ([] ∷ []) ∷ []
lines (b ∷ bs) = begun (kind b) b (lines bs)

-- the first line has its line feed: another line follows
abbrev pub complete : List Line → Bool
complete [] = false
complete (l ∷ []) = false
complete (l ∷ m ∷ ls) = true

-- the kinds of byte that end a field
abbrev pub ends : Kind → Bool
ends Comma = true
ends LineFeed = true
ends (Digit d) = false
ends Other = false

-- the kind that ends a line
abbrev pub feed : Kind → Bool
feed Comma = false
feed LineFeed = true
feed (Digit d) = false
feed Other = false
