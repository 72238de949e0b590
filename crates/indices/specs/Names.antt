-- The names of the columns, and the order in which line 1 holds them. Assumes nothing.
use Rattle.std.specs.Prelude.{ℕ, ◌+◌, Bool, cond, ◌&&◌, List, [], ◌∷◌, ◌++◌, Some, None, Ok, Err, codes, Option, Result, ◌==◌}
use Rattle.std.specs.List.{list_any}
use Rattle.std.specs.Str.{bytes_eq}
use Rattle.indices.specs.declared.names.Column.{Column}
use Rattle.indices.specs.declared.names.Column.TheVariants.{Id, Cap, Rate, Part, Prate}
use Rattle.indices.specs.Text.{Line}

abbrev pub name : Column → List ℕ
name Id = codes "id"
name Cap = codes "cap"
name Rate = codes "rate"
name Part = codes "part"
name Prate = codes "prate"

-- the column that a field names
abbrev pub column : List ℕ → Option Column
column f =
    cond (bytes_eq f (name Id)) (Some Id)
    (cond (bytes_eq f (name Cap)) (Some Cap)
    (cond (bytes_eq f (name Rate)) (Some Rate)
    (cond (bytes_eq f (name Part)) (Some Part)
    (cond (bytes_eq f (name Prate)) (Some Prate) None))))

-- to tell columns apart
abbrev pub index : Column → ℕ
index Id = 0
index Cap = 1
index Rate = 2
index Part = 3
index Prate = 4

abbrev pub same : Column → Column → Bool
same c d = index c == index d

-- a column that stands in a list
abbrev pub among : Column → List Column → Bool
among c ds = list_any (λ d. same d c) ds

abbrev pub all : List Column → Bool
all cs = among Id cs && (among Cap cs && (among Rate cs && (among Part cs && among Prate cs)))

-- a name that does not stand before
abbrev pub fresh : List Column → Option Column → Option Column
fresh before None = None
fresh before (Some c) = cond (among c before) None (Some c)

-- the columns of line 1 in their order; or the place of the first field that is no name or repeats one, or 0 where a name is missing
-- before: the columns of the fields to the left; place: that of the first field of the rest
abbrev pub order : List Column → ℕ → Line → Result (List Column) ℕ
order before place [] = cond (all before) (Ok before) (Err 0)
order before place (f ∷ fs) = elim (fresh before (column f)) [ None ↦ Err place | Some c ↦ order (before ++ (c ∷ [])) (place + 1) fs ]
