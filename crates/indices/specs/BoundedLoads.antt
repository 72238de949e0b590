-- The delivered load models mean lists that are bounded. Each hands its proof on in a ghost member, so the proofs stand here; a reader need not
-- believe them. Assumes nothing.
use Rattle.std.specs.Prelude.{◌≡◌, ℕ, ◌<◌, ◌≤◌, min, List, map, length, nat_lt, slice_index}
use Rattle.std.proofs.Common.{sym, ap, ◌∙◌, ⊎_elim, zero-mul, arith}
use Rattle.std.proofs.lemmas.List.{length-map, get_or-map, get_or_past}
use Rattle.std.proofs.lemmas.Bool.{cases_lt, cond_both}
use Rattle.std.proofs.lemmas.List.FromFn.{length-map-range_with_len, get_or-map-range_with_len}
use Rattle.indices.specs.Loads.{limit, above_limit, held_days, Bounded, as_loads}
use Rattle.indices.specs.Growing.{grown, grown_loads}

pub length_as_loads : (numbers : List ℕ) → length (as_loads numbers) ≡ held_days (length numbers)
unfolding as_loads
length_as_loads numbers = length-map-range_with_len _ 0 (held_days (length numbers))

pub as_loads_at : (numbers : List ℕ) (day : ℕ) → day < held_days (length numbers) → slice_index (as_loads numbers) day ≡ min (slice_index numbers day) above_limit
unfolding as_loads
as_loads_at numbers day h = get_or-map-range_with_len _ 0 (held_days (length numbers)) day day 0 h (omega arith)

pub as_loads_past : (numbers : List ℕ) (day : ℕ) → held_days (length numbers) ≤ day → slice_index (as_loads numbers) day ≡ 0
as_loads_past numbers day h = get_or_past (as_loads numbers) day 0 (rw (length_as_loads numbers) h)

pub as_loads_bounded : (numbers : List ℕ) → Bounded (as_loads numbers)
as_loads_bounded numbers =
    let days = length_as_loads numbers in
    record {
      some = omega arith;
      few = omega arith;
      each = λ day.
          ⊎_elim
          (λ inside. let here = as_loads_at numbers day inside in omega arith)
          (λ past. let none = as_loads_past numbers day past in omega arith)
          (cases_lt day (held_days (length numbers)));
    }

pub length_grown : (percent : ℕ) (loads : List ℕ) → length (grown_loads percent loads) ≡ length loads
unfolding grown_loads
length_grown percent loads = length-map loads (grown percent)

grown_none : (percent : ℕ) → grown percent 0 ≡ 0
grown_none percent = rw (zero-mul percent)

-- past the last day the load is 0, before and after
pub grown_at : (percent : ℕ) (loads : List ℕ) (day : ℕ) → slice_index (grown_loads percent loads) day ≡ grown percent (slice_index loads day)
unfolding grown_loads
grown_at percent loads day =
    ⊎_elim
    (λ inside. get_or-map (grown percent) loads day 0 0 inside)
    (λ past.
    let days = length-map loads (grown percent) in
    get_or_past (map (grown percent) loads) day 0 (omega arith) ∙ (sym (grown_none percent) ∙ ap (grown percent) (sym (get_or_past loads day 0 past))))
    (cases_lt day (length loads))

grown_le : (percent load : ℕ) → grown percent load ≤ above_limit
grown_le percent load = cond_both (nat_lt limit load) above_limit _ (λ n. n ≤ above_limit) (λ _. omega arith) (λ _. omega arith)

pub grown_bounded : (percent : ℕ) (loads : List ℕ) → Bounded loads → Bounded (grown_loads percent loads)
grown_bounded percent loads below =
    let days = length_grown percent loads in
    let some = below.some in
    let few = below.few in
    record { some = omega arith; few = omega arith; each = λ day. rw (grown_at percent loads day) (grown_le percent (slice_index loads day)) }
