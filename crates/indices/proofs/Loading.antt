-- Lists of loads: what keeps them within the limit, and what is read as loads. Assumes nothing.
use Rattle.std.proofs.Common.{◌≡◌, ℕ, zero, suc, ◌<◌, ◌≤◌, min, Bool, true, false, not, eqb, leb, List, [], ◌∷◌, length, get_or, None, refl, ap, ⊎_elim, arith}
use Rattle.std.proofs.lemmas.List.{ext_get_or, get_or_past}
use Rattle.std.proofs.lemmas.List.FromFn.{length-map-range_with_len, get_or-map-range_with_len}
use Rattle.std.proofs.lemmas.List.Folds.{list_all_at}
use Rattle.std.proofs.lemmas.Bool.{leb-true, le-leb, lt-leb, and_parts, and_from, cases_lt, cond_both}
use Rattle.fleet.specs.Refusals.{refused_if}
use Rattle.fleet.specs.declared.refusal.Refusal.TheVariants.{Loads}
use Rattle.indices.specs.Loads.{most_days, limit, above_limit, day_count, all_within_limit, held_days, Bounded, as_loads}
use Rattle.indices.specs.Peaks.{peaks_refusal}
use Rattle.indices.specs.StraightLine.{line_load, line_loads, line_refusal}
use Rattle.indices.specs.BoundedLoads.{length_as_loads, as_loads_at, as_loads_past}

pub within_all : (loads : List ℕ) → ((day : ℕ) → day < length loads → get_or loads day 0 ≤ limit) → all_within_limit loads ≡ true
unfolding all_within_limit
within_all [] each = refl
within_all (load ∷ loads) each =
    and_from _ _ (le-leb load limit (each 0 (omega arith))) (within_all loads (λ day h. each (suc day) (omega arith)))

pub within_not : (loads : List ℕ) (day : ℕ) → day < length loads → limit < get_or loads day 0 → all_within_limit loads ≡ false
unfolding all_within_limit
within_not loads day inside over = list_all_at (λ load. leb load limit) loads day 0 inside (lt-leb _ limit over)

pub within_each : (loads : List ℕ) → all_within_limit loads ≡ true → (day : ℕ) → get_or loads day 0 ≤ limit
unfolding all_within_limit
within_each [] h day = omega arith
within_each (load ∷ loads) h zero = leb-true load limit (and_parts (leb load limit) _ h).0
within_each (load ∷ loads) h (suc day) = within_each loads (and_parts (leb load limit) _ h).1 day

-- a list that is bounded is read as it stands
pub as_loads_same : (loads : List ℕ) → Bounded loads → as_loads loads ≡ loads
as_loads_same loads b =
    let some = b.some in
    let few = b.few in
    let days = length_as_loads loads in
    ext_get_or 0 (as_loads loads) loads (omega arith)
    (λ day h. let each = b.each day in let at = as_loads_at loads day (omega arith) in omega arith)

pub as_loads_in : (numbers : List ℕ) (day : ℕ) → day < min (length numbers) most_days → get_or (as_loads numbers) day 0 ≡ min (get_or numbers day 0) above_limit
as_loads_in numbers day inside = as_loads_at numbers day (omega arith)

pub as_loads_out : (numbers : List ℕ) (day : ℕ) → min (length numbers) most_days ≤ day → get_or (as_loads numbers) day 0 ≡ 0
as_loads_out numbers day out =
    ⊎_elim
    (λ inside. let at = as_loads_at numbers day inside in let none = get_or_past numbers day 0 (omega arith) in omega arith)
    (λ past. as_loads_past numbers day past)
    (cases_lt day (held_days (length numbers)))

record Counted (days : ℕ) : Type 0 where
  pub some : 1 ≤ days
  pub few : days ≤ most_days

counted : (days : ℕ) → day_count days ≡ true → Counted days
counted days h =
    let parts = and_parts (leb 1 days) (leb days most_days) h in
    record { some = leb-true 1 days parts.0; few = leb-true days most_days parts.1 }

accepted : (fine : Bool) → fine ≡ true → refused_if (not fine) Loads ≡ None
accepted fine h = ap (λ b. refused_if (not b) Loads) h

-- a list that the maker accepts is meant as it stands
pub peaks_made : (loads : List ℕ) → day_count (length loads) ≡ true → all_within_limit loads ≡ true → (peaks_refusal loads ≡ None) × (as_loads loads ≡ loads)
peaks_made loads count within =
    let days = counted (length loads) count in (
      accepted _ (and_from _ _ count within),
      as_loads_same loads (record { some = days.some; few = days.few; each = λ day. let each = within_each loads within day in omega arith }),
    )

pub length_line : (days high low : ℕ) → length (line_loads days high low) ≡ days
unfolding line_loads
length_line days high low = length-map-range_with_len _ 0 days

pub line_at : (days high low day : ℕ) → day < days → get_or (line_loads days high low) day 0 ≡ line_load days high low day
unfolding line_loads
line_at days high low day h = get_or-map-range_with_len _ 0 days day day 0 h (omega arith)

line_le : (days high low day : ℕ) → line_load days high low day ≤ high
line_le days high low day = cond_both (eqb days 1) high _ (λ load. load ≤ high) (λ _. omega arith) (λ _. omega arith)

-- so is the line
pub line_made : (days high low : ℕ) → day_count days ≡ true → low ≤ high → high ≤ limit → (line_refusal days high low ≡ None) × (as_loads (line_loads days high low) ≡ line_loads days high low)
line_made days high low count falls within =
    let held = counted days count in
    let long = length_line days high low in (
      accepted _ (and_from _ _ count (and_from _ _ (le-leb low high falls) (le-leb high limit within))),
      as_loads_same (line_loads days high low) (record {
        some = omega arith;
        few = omega arith;
        each = λ day.
            ⊎_elim
            (λ inside. let at = line_at days high low day inside in let le = line_le days high low day in omega arith)
            (λ past. let none = get_or_past (line_loads days high low) day 0 (omega arith) in omega arith)
            (cases_lt day days);
      }),
    )
