-- What taking a unit out keeps of a table, from the laws of its rule alone. Assumes nothing.
use Rattle.std.proofs.Common.{◌≡◌, ℕ, zero, suc, ◌+◌, ◌-◌, ◌*◌, ◌<◌, ◌≤◌, min, cond, ltb, ◌≢◌, List, [], ◌∷◌, ◌++◌, length, get_or, take, drop, set, sym, refl, ap, ◌∙◌, subst, ⊎_elim, le_refl, mul-le-mul_right, add-mul, add-one, arith, length-set, get_or-set_other, get_or-set_same}
use Rattle.std.specs.List.{AllByRecursion}
use Rattle.std.proofs.ByRecursion.{All-weaker}
use Rattle.std.proofs.lemmas.List.{get_or_past, get_or-take, take_more, take_all, take_rest}
use Rattle.std.proofs.lemmas.Bool.{cases_lt, cases_eq, cond-true, cond-false, cond_both, lt-ltb, le-ltb}
use Rattle.rounding.specs.Rule.{Asked, Close}
use Rattle.rounding.specs.Table.{full, entry_before, Falling, Zeros, Within}
use Rattle.rounding.specs.Mixture.{million, weights, amount, mixture}
use Rattle.rounding.specs.Tolerance.{removal_tolerance}
use Rattle.rounding.specs.Removing.{Starting, first_weight, entry_without, entries_without, without, Tail}
use Rattle.rounding.specs.declared.state.State.{State}
use Rattle.rounding.proofs.Amounts.{amount_cons, amount_none, mixture_cons, mixture_none, weights_cons, weights_none}
use Rattle.rounding.proofs.Errors.{near_multiple, removal_pays, removal_grows, entry_over, entry_under, min_near}
use Rattle.rounding.proofs.Recursion.{before_at, before_below, before_agrees, before_is, amount_agrees, amount_over, amount_under, entry_le}

-- the states as `[first, rest @ ..]` takes them apart
pub states_apart : (states : List State) (d : State) → 1 ≤ length states → states ≡ get_or states 0 d ∷ take (length states - 1) (drop 1 states)
states_apart [] d some = absurd (omega arith)
states_apart (first ∷ rest) d some = ap (λ r. first ∷ r) (sym (take_rest (first ∷ rest) 1))

-- what is asked of the states, for the first and the rest
pub record Asked_of (first : State) (rest : List State) : Type 0 where
  pub shares : first.weight + weights rest ≡ million
  pub starts : first.outage ≡ 0
  pub later : AllByRecursion (λ s. 1 ≤ s.outage) rest
  pub high : 500000 < first.weight

pub asked_of : (states : List State) (first : State) (rest : List State) → states ≡ first ∷ rest → weights states ≡ million → Starting states → 500000 < first_weight states → Asked_of first rest
asked_of states first rest apart shares starting high =
    let stands = subst Starting apart starting in
    record {
      shares = sym (weights_cons first rest) ∙ ap weights (sym apart) ∙ shares;
      starts = stands.0;
      later = stands.1;
      high = subst (λ s. 500000 < first_weight s) apart high;
    }

before_next : (entries : List ℕ) (k : ℕ) → entry_before entries (k + 1) 1 ≡ get_or entries k 0
before_next entries k =
    let back : k + 1 - 1 ≡ k = omega arith in
    before_at entries (k + 1) 1 (omega arith) ∙ ap (λ j. get_or entries j 0) back

-- the table once the places below k are written
pub record Partly (answer : ℕ → ℕ → ℕ) (first : State) (rest : List State) (greatest : ℕ) (old new : List ℕ) (k : ℕ) : Type 0 where
  pub places : length new ≡ length old
  pub made : (j : ℕ) → j < k → get_or new j 0 ≡ entry_without answer first rest greatest old new j
  pub kept : (j : ℕ) → k ≤ j → get_or new j 0 ≡ get_or old j 0

-- each new entry, by its place
pub record Removed (answer : ℕ → ℕ → ℕ) (first : State) (rest : List State) (greatest : ℕ) (old new : List ℕ) : Type 0 where
  pub places : length new ≡ length old
  pub entries : (k : ℕ) → k < length old → get_or new k 0 ≡ entry_without answer first rest greatest old new k

module _ (answer : ℕ → ℕ → ℕ) (first : State) (rest : List State) (later : AllByRecursion (λ s. 1 ≤ s.outage) rest) (greatest : ℕ) where
  -- an entry needs only new entries below its place
  without_agrees : (old a b : List ℕ) (k : ℕ) → ((j : ℕ) → j < k → get_or a j 0 ≡ get_or b j 0) → entry_without answer first rest greatest old a k ≡ entry_without answer first rest greatest old b k
  without_agrees old a b k same =
      let amounts = amount_agrees 1 rest later a b k (λ j h. same j (omega arith)) in
      let before = before_agrees a b k 1 (λ h. same (k - 1) (omega arith)) in
      λ i. cond (ltb greatest k) 0 (min (answer (million * get_or old k 0 - amounts i) first.weight) (before i))

  without_le : (old below : List ℕ) (k : ℕ) → entry_without answer first rest greatest old below k ≤ entry_before below k 1
  without_le old below k = cond_both (ltb greatest k) 0 _ (λ e. e ≤ entry_before below k 1) (λ _. omega arith) (λ _. omega arith)

  -- one place more, upward
  pub partly_more : (old new : List ℕ) (k entry : ℕ) → k < length old → Partly answer first rest greatest old new k → entry ≡ entry_without answer first rest greatest new new k → Partly answer first rest greatest old (set new k entry) (k + 1)
  partly_more old new k entry inside h is =
      let within : k < length new = omega (arith, h.places) in
      let other : (j : ℕ) → j ≢ k → get_or (set new k entry) j 0 ≡ get_or new j 0 = λ j off. get_or-set_other new k j entry 0 off in
      let agrees : (j : ℕ) → j ≤ k → entry_without answer first rest greatest old new j ≡ entry_without answer first rest greatest old (set new k entry) j = λ j le. without_agrees old new (set new k entry) j (λ i low. sym (other i (omega arith))) in
      let here : entry_without answer first rest greatest new new k ≡ entry_without answer first rest greatest old new k = ap (λ e. cond (ltb greatest k) 0 (min (answer (million * e - amount rest new k) first.weight) (entry_before new k 1))) (h.kept k (le_refl k)) in
      record {
        places = length-set new k entry ∙ h.places;
        made = λ j low.
            ⊎_elim
            (λ same. ap (λ i. get_or (set new k entry) i 0) same ∙ get_or-set_same new k entry 0 within ∙ is ∙ here ∙ agrees k (le_refl k) ∙ ap (λ i. entry_without answer first rest greatest old (set new k entry) i) (sym same))
            (λ off. other j off ∙ h.made j (omega arith) ∙ agrees j (omega arith))
            (cases_eq j k);
        kept = λ j from. other j (omega arith) ∙ h.kept j (omega arith);
      }

  -- no entry is above certainty
  made_le : (old new : List ℕ) (k : ℕ) → Partly answer first rest greatest old new k → (j : ℕ) → j < k → get_or new j 0 ≤ full
  made_le old new k h zero low = rw (h.made zero low) (let less = without_le old new zero in omega arith)
  made_le old new k h (suc j) low =
      let less = without_le old new (suc j) in
      let before = made_le old new k h j (omega arith) in
      let at = rw add-one at (before_next new j) in
      rw (h.made (suc j) low) (omega arith)

  pub partly_le : (old new : List ℕ) (k : ℕ) → get_or old 0 0 ≡ full → Falling old → Partly answer first rest greatest old new k → (j : ℕ) → get_or new j 0 ≤ full
  partly_le old new k certain falling h j =
      ⊎_elim (made_le old new k h j) (λ from. rw (h.kept j from) (entry_le old certain falling j)) (cases_lt j k)

  front : (old new : List ℕ) → Removed answer first rest greatest old new → (n : ℕ) → n ≤ length old → entries_without answer first rest greatest old n ≡ take n new
  unfolding entries_without
  front old new h zero low = refl
  front old new h (suc k) low =
      let below = front old new h k (omega arith) in
      let same = without_agrees old (take k new) new k (λ j less. get_or-take k new j 0 less) in
      let entry = ap (λ b. entry_without answer first rest greatest old b k) below ∙ same ∙ sym (h.entries k (omega arith)) in
      let more = take_more new k 0 (omega (arith, h.places)) in
      (λ i. below i ++ entry i ∷ []) ∙ sym more ∙ ap (λ n. take n new) (add-one k)

  pub without_is : (old new : List ℕ) → Removed answer first rest greatest old new → new ≡ without answer (first ∷ rest) greatest old
  unfolding without
  without_is old new h = sym (front old new h (length old) (le_refl (length old)) ∙ take_all (length old) new (omega (arith, h.places)))

  -- with every place written, the first state's weight above half a million, and the rest of a million with the others
  module _ (close : Close answer) (high : 500000 < first.weight) (shares : first.weight + weights rest ≡ million) (old new : List ℕ) (certain : get_or old 0 0 ≡ full) (falling : Falling old) (made : Removed answer first rest greatest old new) where
    inside_first : 0 < length old
    inside_first = ⊎_elim (λ h. h) (λ past. let none = get_or_past old 0 0 past in absurd (omega arith)) (cases_lt 0 (length old))

    past_zero : (k : ℕ) → length old ≤ k → get_or new k 0 ≡ 0
    past_zero k past = get_or_past new k 0 (omega (arith, made.places))

    -- the later states all read below place 0
    amount_first : (states : List State) → AllByRecursion (λ s. 1 ≤ s.outage) states → amount states new 0 ≡ weights states * full
    amount_first [] low = rw (amount_none, weights_none) refl
    amount_first (s ∷ states) low =
        let some = low.0 in
        let tail = amount_first states low.1 in
        rw (amount_cons, weights_cons, before_below new 0 s.outage (omega arith)) (omega (arith, add-mul s.weight (weights states) full))

    asked : (amount : ℕ) → amount ≤ million * full → Asked amount first.weight
    asked amount h = record { amount_fits = omega arith; divisor_fits = omega arith; divisor_some = omega arith }

    answer_first : answer (full * first.weight) first.weight ≡ full
    answer_first = near_multiple _ full first.weight (close (full * first.weight) first.weight (asked _ (omega arith)))

    pub without_certain : get_or new 0 0 ≡ full
    without_certain =
        let left : million * get_or old 0 0 - amount rest new 0 ≡ full * first.weight = rw (certain, amount_first rest later) (omega (arith, add-mul first.weight (weights rest) full)) in
        made.entries 0 inside_first ∙ cond-false (ltb greatest 0) 0 _ (le-ltb greatest 0 (omega arith)) ∙ ap (λ a. min (answer a first.weight) full) left ∙ ap (λ e. min e full) answer_first

    pub without_falling : Falling new
    without_falling k =
        ⊎_elim
        (λ inside. rw (made.entries (k + 1) inside) (let less = without_le old new (k + 1) in let before = before_next new k in omega arith))
        (λ past. rw (past_zero (k + 1) past) (omega arith))
        (cases_lt (k + 1) (length old))

    pub without_zeros : Zeros greatest new
    without_zeros k above =
        ⊎_elim
        (λ inside. made.entries k inside ∙ cond-true (ltb greatest k) 0 _ (lt-ltb greatest k above))
        (past_zero k)
        (cases_lt k (length old))

    module _ (starts : first.outage ≡ 0) (t scale : ℕ) (x : ℕ → ℕ) (tail : Tail greatest x) (within : Within t (scale * million) (mixture (first ∷ rest) x) old) where
      -- the tolerance after
      abbrev u : ℕ
      u = removal_tolerance first.weight t

      abbrev Over : ℕ → Type 0
      Over k = get_or new k 0 * scale ≤ x k + u * scale

      abbrev Under : ℕ → Type 0
      Under k = x k ≤ get_or new k 0 * scale + u * scale

      mixture_apart : (k : ℕ) → mixture (first ∷ rest) x k ≡ first.weight * x k + mixture rest x k
      mixture_apart k =
          let here : k - first.outage ≡ k = omega arith in
          mixture_cons first rest x k ∙ ap (λ j. first.weight * x j + mixture rest x k) here

      mixture_first : (states : List State) → mixture states x 0 ≡ weights states * x 0
      mixture_first [] = rw (mixture_none, weights_none) (omega arith)
      mixture_first (s ∷ states) =
          let more = mixture_first states in
          let none : 0 - s.outage ≡ 0 = omega arith in
          rw (mixture_cons, weights_cons, none) (omega (arith, add-mul s.weight (weights states) (x 0)))

      whole_first : mixture (first ∷ rest) x 0 ≡ million * x 0
      whole_first = mixture_first (first ∷ rest) ∙ ap (λ w. w * x 0) (weights_cons first rest ∙ shares)

      -- place 0 was as near before
      first_near : Over 0 × Under 0
      first_near =
          let over = rw (certain, whole_first) at (within.over 0 inside_first) in
          let under = rw (certain, whole_first) at (within.under 0 inside_first) in
          let more = mul-le-mul_right scale (removal_grows first.weight t high (omega arith)) in
          rw without_certain (omega arith, omega arith)

      -- a place above 0, from those below it
      module _ (k : ℕ) (above : 0 < k) (inside : k < length old) (nears : (j : ℕ) → j < k → Over j × Under j) where
        before_over : (s : State) → 1 ≤ s.outage → entry_before new k s.outage * scale ≤ x (k - s.outage) + u * scale
        before_over s some = rw (before_is new without_certain without_falling k s.outage) (nears (k - s.outage) (omega arith)).0

        before_under : (s : State) → 1 ≤ s.outage → x (k - s.outage) ≤ entry_before new k s.outage * scale + u * scale
        before_under s some = rw (before_is new without_certain without_falling k s.outage) (nears (k - s.outage) (omega arith)).1

        rest_over : amount rest new k * scale ≤ mixture rest x k + weights rest * (u * scale)
        rest_over = amount_over new u scale x k rest (All-weaker _ _ before_over rest later)

        rest_under : mixture rest x k ≤ amount rest new k * scale + weights rest * (u * scale)
        rest_under = amount_under new u scale x k rest (All-weaker _ _ before_under rest later)

        -- the rule's answer, before it is held to the entry before
        told : ℕ
        told = answer (million * get_or old k 0 - amount rest new k) first.weight

        told_near : (told * scale ≤ x k + u * scale) × (x k ≤ told * scale + u * scale)
        unfolding told
        told_near =
            let pays = removal_pays first.weight t high in
            let near = close (million * get_or old k 0 - amount rest new k) first.weight (asked _ (omega (arith, entry_le old certain falling k))) in
            let some : 0 < first.weight = omega arith in (
              entry_over first.weight (weights rest) t u scale (get_or old k 0) _ (amount rest new k) (x k) (mixture rest x k) some shares pays near (rw (mixture_apart k) at (within.over k inside)) rest_under,
              entry_under first.weight (weights rest) t u scale (get_or old k 0) _ (amount rest new k) (x k) (mixture rest x k) some shares pays near (rw (mixture_apart k) at (within.under k inside)) rest_over,
            )

        held : k ≤ greatest → get_or new k 0 ≡ min told (get_or new (k - 1) 0)
        unfolding told
        held low = made.entries k inside ∙ cond-false (ltb greatest k) 0 _ (le-ltb greatest k low) ∙ ap (min told) (before_at new k 1 above)

        pub next_near : Over k × Under k
        next_near =
            ⊎_elim
            (λ beyond. let gone = tail.ends k beyond in rw (without_zeros k beyond) (omega arith, omega arith))
            (λ low. rw (held low) (min_near told (get_or new (k - 1) 0) (x k) (x (k - 1)) u scale told_near.0 told_near.1 (nears (k - 1) (omega arith)).1 falls))
            (cases_lt greatest k)
          where
            falls : x k ≤ x (k - 1)
            falls = let next : k - 1 + 1 ≡ k = omega arith in rw next at (tail.falls (k - 1))

      near_to : (bound k : ℕ) → k < bound → k < length old → Over k × Under k
      near_to zero k low inside = absurd (omega arith)
      near_to (suc bound) k low inside =
          ⊎_elim
          (λ above. next_near k above inside (λ j less. near_to bound j (omega arith) (omega arith)))
          (λ none. let first-place : 0 ≡ k = omega arith in subst (λ j. Over j × Under j) first-place first_near)
          (cases_lt 0 k)

      pub without_within : Within u scale x new
      without_within = record {
        over = λ k h. (near_to (k + 1) k (omega arith) (omega (arith, made.places))).0;
        under = λ k h. (near_to (k + 1) k (omega arith) (omega (arith, made.places))).1;
      }
