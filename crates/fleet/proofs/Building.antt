-- A table built from the units in service, one after another. Assumes nothing.
use Rattle.std.proofs.Common.{◌≡◌, ℕ, ◌+◌, ◌<◌, ◌≤◌, Bool, true, false, cond, List, [], ◌∷◌, ◌++◌, map, length, get_or, take, filter, count_by, sym, refl, ap, ◌∙◌, subst, arith}
use Rattle.std.proofs.lemmas.List.{append-nil, length-map, map_more}
use Rattle.std.proofs.lemmas.List.Sums.{fold_push, length-filter, count_by-le-length}
use Rattle.std.proofs.lemmas.List.Elements.{filter-append}
use Rattle.rounding.specs.Table.{Zeros}
use Rattle.rounding.specs.Adding.{added}
use Rattle.fleet.specs.Units.{GeneratingUnit, unit_of, in_service, service_outage, greatest_outage}
use Rattle.fleet.specs.Ledger.{open_table}
use Rattle.fleet.specs.Rebuilding.{table_of}
use Rattle.fleet.specs.declared.record.UnitRecord.{UnitRecord}
use Rattle.fleet.proofs.Listing.{total_none, total_push}
use Rattle.fleet.proofs.Opening.{open_zeros}

-- a table with those of the units that are in service
pub record Built (answer : ℕ → ℕ → ℕ) (units : List GeneratingUnit) (table : List ℕ) : Type 0 where
  pub entries : table ≡ table_of answer (in_service units)
  pub zeros : Zeros (greatest_outage units) table

table_none : (answer : ℕ → ℕ → ℕ) → table_of answer [] ≡ open_table
unfolding table_of
table_none answer = refl

table_push : (answer : ℕ → ℕ → ℕ) (units : List GeneratingUnit) (u : GeneratingUnit) (serving : Bool) → table_of answer (units ++ cond serving (u ∷ []) []) ≡ cond serving (added answer u.states (table_of answer units)) (table_of answer units)
unfolding table_of
table_push answer units u true = fold_push _ open_table units u
table_push answer units u false = ap (table_of answer) (append-nil units)

pub built_none : (answer : ℕ → ℕ → ℕ) (table : List ℕ) → table ≡ open_table → Built answer [] table
built_none answer table h = record {
  entries = h ∙ sym (table_none answer);
  zeros = subst (Zeros _) (sym h) (subst (λ m. Zeros m open_table) (sym (total_none service_outage)) open_zeros);
}

-- one unit more, which is added if it is in service
built_push : (answer : ℕ → ℕ → ℕ) (units : List GeneratingUnit) (u : GeneratingUnit) (table new : List ℕ) → Built answer units table → new ≡ cond u.serving (added answer u.states table) table → ((m : ℕ) → Zeros m table → Zeros (m + service_outage u) new) → Built answer (units ++ u ∷ []) new
built_push answer units u table new h made zeros =
    let more : in_service (units ++ u ∷ []) ≡ in_service units ++ cond u.serving (u ∷ []) [] = filter-append (λ v. v.serving) units (u ∷ []) in
    let table_more = ap (table_of answer) more ∙ table_push answer (in_service units) u u.serving in
    record {
      entries = made ∙ ap (λ t. cond u.serving (added answer u.states t) t) h.entries ∙ sym table_more;
      zeros = subst (λ m. Zeros m new) (sym (total_push service_outage units u)) (zeros (greatest_outage units) h.zeros);
    }

pub built_more : (answer : ℕ → ℕ → ℕ) (records : List UnitRecord) (i : ℕ) (d r : UnitRecord) (table new : List ℕ) → i < length records → r ≡ get_or records i d → Built answer (map unit_of (take i records)) table → new ≡ cond r.serving (added answer (unit_of r).states table) table → ((m : ℕ) → Zeros m table → Zeros (m + service_outage (unit_of r)) new) → Built answer (map unit_of (take (i + 1) records)) new
built_more answer records i d r table new inside is h made zeros =
    let next = map_more unit_of records i d inside ∙ ap (λ q. map unit_of (take i records) ++ unit_of q ∷ []) (sym is) in
    subst (λ units. Built answer units new) (sym next) (built_push answer (map unit_of (take i records)) (unit_of r) table new h made zeros)

-- the records in service
kept : (serving : Bool) (r : UnitRecord) (records : List UnitRecord) (units : List GeneratingUnit) → units ≡ map unit_of records → cond serving (unit_of r ∷ units) units ≡ map unit_of (cond serving (r ∷ records) records)
kept true r records units h = ap (λ us. unit_of r ∷ us) h
kept false r records units h = h

serving_recorded : (records : List UnitRecord) → in_service (map unit_of records) ≡ map unit_of (filter (λ (r : UnitRecord). r.serving) records)
serving_recorded [] = refl
serving_recorded (r ∷ records) = kept r.serving r _ _ (serving_recorded records)

pub serving_counted : (records : List UnitRecord) → length (in_service (map unit_of records)) ≡ count_by (λ (r : UnitRecord). r.serving) records
serving_counted records =
    ap length (serving_recorded records) ∙ length-map (filter (λ (r : UnitRecord). r.serving) records) unit_of ∙ length-filter (λ (r : UnitRecord). r.serving) records

-- no more units are in service than there are
pub service_few : (units : List GeneratingUnit) → length (in_service units) ≤ length units
service_few units = let serving = λ (u : GeneratingUnit). u.serving in omega (arith, length-filter serving units, count_by-le-length serving units)
