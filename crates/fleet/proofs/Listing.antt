-- Lists of units: what they total, and where an identity stands. Assumes nothing.
use Rattle.std.proofs.Common.{◌≡◌, ℕ, suc, ◌+◌, ◌-◌, ◌<◌, ◌≤◌, Bool, cond, eqb, List, [], ◌∷◌, ◌++◌, map, length, get_or, take, Some, None, sym, refl, ap, ◌∙◌, subst, ⊎_elim, arith}
use Rattle.std.specs.List.{sum_by, position_from, position}
use Rattle.std.proofs.lemmas.List.{take-map, map_more}
use Rattle.std.proofs.lemmas.List.Sums.{sum_by_push, sum_by-take-le}
use Rattle.std.proofs.lemmas.Option.{none-some, same_Some}
use Rattle.std.proofs.lemmas.Bool.{cond-true, cond-false, cases_Bool}
use Rattle.std.proofs.lemmas.Iterator.Adapters.{position_from-zero}
use Rattle.fleet.specs.Units.{GeneratingUnit, unit_of, total}
use Rattle.fleet.specs.LookUp.{place, look_up, plain}
use Rattle.fleet.specs.declared.record.UnitRecord.{UnitRecord}

abbrev named : ℕ → GeneratingUnit → Bool
named identity u = eqb u.identity identity

pub total_none : (share : GeneratingUnit → ℕ) → total share [] ≡ 0
unfolding total
total_none share = refl

pub total_push : (share : GeneratingUnit → ℕ) (units : List GeneratingUnit) (u : GeneratingUnit) → total share (units ++ u ∷ []) ≡ total share units + share u
unfolding total
total_push share units u = sum_by_push share units u

-- one record more
pub total_next : (share : GeneratingUnit → ℕ) (records : List UnitRecord) (i : ℕ) (d : UnitRecord) → i < length records → total share (map unit_of (take (i + 1) records)) ≡ total share (map unit_of (take i records)) + share (unit_of (get_or records i d))
total_next share records i d h = ap (total share) (map_more unit_of records i d h) ∙ total_push share (map unit_of (take i records)) (unit_of (get_or records i d))

pub total_take : (share : GeneratingUnit → ℕ) (records : List UnitRecord) (i : ℕ) → total share (map unit_of (take i records)) ≤ total share (map unit_of records)
unfolding total
total_take share records i = subst (λ units. sum_by share units ≤ sum_by share (map unit_of records)) (take-map unit_of i records) (sum_by-take-le share (map unit_of records) i)

-- what a search finds
look_up_none : (i identity : ℕ) (units : List GeneratingUnit) → position_from (named identity) i units ≡ None → look_up identity units ≡ None
unfolding look_up
look_up_none i identity [] h = refl
look_up_none i identity (u ∷ units) h =
    ⊎_elim
    (λ yes'. absurd (none-some _ (sym (sym (cond-true (eqb u.identity identity) (Some i) _ yes') ∙ h))))
    (λ no'. cond-false (eqb u.identity identity) _ _ no' ∙ look_up_none (i + 1) identity units (sym (cond-false (eqb u.identity identity) (Some i) _ no') ∙ h))
    (cases_Bool (eqb u.identity identity))

look_up_some : (i identity : ℕ) (units : List GeneratingUnit) (k : ℕ) (d : GeneratingUnit) → position_from (named identity) i units ≡ Some k → (i ≤ k) × (look_up identity units ≡ Some (plain (get_or units (k - i) d)))
unfolding look_up
look_up_some i identity [] k d h = absurd (none-some _ h)
look_up_some i identity (u ∷ units) k d h =
    ⊎_elim
    (λ yes'.
    let here : i ≡ k = same_Some _ _ (sym (cond-true (eqb u.identity identity) (Some i) _ yes') ∙ h) in
    let none : k - i ≡ 0 = omega arith in
    (omega arith, cond-true (eqb u.identity identity) _ _ yes' ∙ ap (λ n. Some (plain (get_or (u ∷ units) n d))) (sym none)))
    (λ no'.
    let rest = look_up_some (i + 1) identity units k d (sym (cond-false (eqb u.identity identity) (Some i) _ no') ∙ h) in
    let on = rest.0 in
    let up : k - i ≡ suc (k - (i + 1)) = omega arith in
    (omega arith, cond-false (eqb u.identity identity) _ _ no' ∙ rest.1 ∙ ap (λ n. Some (plain (get_or (u ∷ units) n d))) (sym up)))
    (cases_Bool (eqb u.identity identity))

pub missing : (identity : ℕ) (units : List GeneratingUnit) → place identity units ≡ None → look_up identity units ≡ None
missing identity units h = look_up_none 0 identity units (sym (position_from-zero (named identity) units) ∙ h)

pub found : (identity : ℕ) (units : List GeneratingUnit) (k : ℕ) (d : GeneratingUnit) → place identity units ≡ Some k → look_up identity units ≡ Some (plain (get_or units k d))
found identity units k d h =
    let some = look_up_some 0 identity units k d (sym (position_from-zero (named identity) units) ∙ h) in
    let same : k - 0 ≡ k = omega arith in
    rw same at some.1

-- the place of a unit among the records
position_map : (identity i : ℕ) (records : List UnitRecord) → position_from (named identity) i (map unit_of records) ≡ position_from (λ r. eqb r.identity identity) i records
position_map identity i [] = refl
position_map identity i (r ∷ records) = ap (cond (eqb r.identity identity) (Some i)) (position_map identity (i + 1) records)

pub place_recorded : (identity : ℕ) (records : List UnitRecord) → place identity (map unit_of records) ≡ position (λ r. eqb r.identity identity) records
place_recorded identity records =
    position_from-zero (named identity) (map unit_of records) ∙ position_map identity 0 records ∙ sym (position_from-zero (λ r. eqb r.identity identity) records)
