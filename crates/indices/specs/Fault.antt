-- The number of each reason, and the layer at which it is found. Assumes nothing.
use Rattle.std.specs.Prelude.{ℕ, List, ◌++◌, codes, decimal}
use Rattle.fleet.specs.Refusals.{number as refusal_number}
use Rattle.indices.specs.declared.fault.Fault.{Fault}
use Rattle.indices.specs.declared.fault.Reason.{Reason}
use Rattle.indices.specs.declared.fault.Reason.TheVariants.{TooLong, NoLineFeed, Names, NotDigit, DigitCount, FieldCount, Rates, Fleet as FleetRefuses}
use Rattle.indices.specs.declared.fault.Layer.{Layer}
use Rattle.indices.specs.declared.fault.Layer.TheVariants.{Text, Row, Fleet}

abbrev pub number : Reason → ℕ
number TooLong = 15
number NoLineFeed = 16
number Names = 17
number NotDigit = 18
number DigitCount = 19
number FieldCount = 20
number Rates = 21
number (FleetRefuses refusal) = refusal_number refusal

-- where a fault is found: 1 in the text, 2 in the row, 3 by the fleet
abbrev pub fleet_layer : ℕ
fleet_layer = 3

abbrev pub layer : Reason → ℕ
layer TooLong = 1
layer NoLineFeed = 1
layer Names = 2
layer NotDigit = 1
layer DigitCount = 1
layer FieldCount = 2
layer Rates = 2
layer (FleetRefuses refusal) = fleet_layer

-- the number of a layer
abbrev pub layer_number : Layer → ℕ
layer_number Text = 1
layer_number Row = 2
layer_number Fleet = 3

-- a fault of a field, of a whole line, and of the whole sheet
abbrev pub fault_at : Reason → ℕ → ℕ → Fault
fault_at reason line place = record { reason = reason; line = line; field = place }

abbrev pub fault_of_line : Reason → ℕ → Fault
fault_of_line reason line = fault_at reason line 0

abbrev pub fault_of_sheet : Reason → Fault
fault_of_sheet reason = fault_of_line reason 0

-- a line of names, and a line of five numbers in decimal with commas between them
abbrev pub written : ℕ → ℕ → ℕ → ℕ → ℕ → List ℕ
written a b c d e = codes "layer,number,line,field,added\n" ++ (decimal a ++ (codes "," ++ (decimal b ++ (codes "," ++ (decimal c ++ (codes "," ++ (decimal d ++ (codes "," ++ decimal e))))))))

-- what is told of a fault
pub record Report : Type 0 where
  pub layer : ℕ
  pub number : ℕ
  pub line : ℕ
  pub field : ℕ

abbrev pub report : Fault → Report
report f = record { layer = layer f.reason; number = number f.reason; line = f.line; field = f.field }
