-- A row of a sheet, and the states of the unit that it describes. Assumes nothing.
use Rattle.std.specs.Prelude.{ℕ, ◌+◌, ◌-◌, Bool, cond, not, ◌&&◌, List, [], ◌∷◌, ◌++◌, Some, None, ◌==◌, nat_le, position, slice_index}
use Rattle.rounding.specs.Mixture.{million}
use Rattle.rounding.specs.declared.state.State.{State}
use Rattle.indices.specs.declared.names.Column.{Column}
use Rattle.indices.specs.declared.names.Column.TheVariants.{Id, Cap, Rate, Part, Prate}
use Rattle.indices.specs.Names.{same}

-- what a row says: its line, its unit, sizes in steps of capacity, and probabilities in millionths
pub record Row : Type 0 where
  pub line : ℕ
  pub id : ℕ
  pub «cap» : ℕ
  pub rate : ℕ
  pub part : ℕ
  pub prate : ℕ

-- the value that stands in the place of a column
abbrev pub under : Column → List Column → List ℕ → ℕ
under c order vs = elim (position (λ d. same d c) order) [ None ↦ 0 | Some place ↦ slice_index vs place ]

-- the row that a line's values give
abbrev pub row_of : List Column → ℕ → List ℕ → Row
row_of order line vs =
    record {
      line = line;
      id = under Id order vs;
      «cap» = under Cap order vs;
      rate = under Rate order vs;
      part = under Part order vs;
      prate = under Prate order vs;
    }

-- the weight that the rates leave is above 0, and a partial outage has a rate exactly if it has a size
abbrev pub rates_fit : ℕ → ℕ → ℕ → Bool
rates_fit rate part prate = nat_le (rate + prate) 999999 && cond (part == 0) (prate == 0) (not (prate == 0))

-- so it is for the rates of this row
abbrev pub rates : Row → Bool
rates r = rates_fit r.rate r.part r.prate

-- a state that is there only if the number that decides it is above 0
abbrev pub state_if : ℕ → ℕ → ℕ → List State
state_if decides outage weight = cond (decides == 0) [] (record { outage = outage; weight = weight } ∷ [])

-- no outage, the partial outage, the full outage; weights in millionths
abbrev pub states : Row → List State
states r =
    record { outage = 0; weight = million - r.rate - r.prate } ∷ (state_if r.part r.part r.prate ++ state_if r.rate r.«cap» r.rate)
