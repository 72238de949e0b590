-- What adding a unit keeps of a table, from the laws of its rule alone. Assumes nothing.
use Rattle.std.proofs.Common.{◌≡◌, ℕ, zero, suc, ◌+◌, ◌-◌, ◌*◌, ◌<◌, ◌≤◌, ltb, ◌≢◌, List, [], ◌∷◌, length, get_or, set, sym, refl, ap, ◌∙◌, ⊎_elim, le_refl, le_of_lt, mul-le-mul_right, add-mul, mul-le-mul_left, add-one, arith, length-set, get_or-set_other, get_or-set_same}
use Rattle.std.specs.List.{AllByRecursion}
use Rattle.std.proofs.lemmas.List.FromFn.{fill_by_all}
use Rattle.std.proofs.lemmas.List.{get_or_past}
use Rattle.std.proofs.lemmas.Bool.{cases_lt, cases_eq, cond-true, cond-false, lt-ltb, le-ltb}
use Rattle.rounding.specs.Rule.{Asked, Close, Rising}
use Rattle.rounding.specs.Table.{full, entry_before, Falling, Zeros, Within}
use Rattle.rounding.specs.Mixture.{million, weights, Outages, amount, mixture}
use Rattle.rounding.specs.Adding.{added}
use Rattle.rounding.specs.declared.state.State.{State}
use Rattle.rounding.proofs.Amounts.{amount_cons, amount_none, amount_le, mixture_cons, mixture_none, weights_cons, weights_none}

-- a place at or above 0, and one below
pub before_at : (entries : List ℕ) (k outage : ℕ) → outage ≤ k → entry_before entries k outage ≡ get_or entries (k - outage) 0
before_at entries k outage h = cond-false (ltb k outage) full _ (le-ltb k outage h)

pub before_below : (entries : List ℕ) (k outage : ℕ) → k < outage → entry_before entries k outage ≡ full
before_below entries k outage h = cond-true (ltb k outage) full _ (lt-ltb k outage h)

-- an entry before k agrees where the place it reads does
pub before_agrees : (a b : List ℕ) (k outage : ℕ) → (outage ≤ k → get_or a (k - outage) 0 ≡ get_or b (k - outage) 0) → entry_before a k outage ≡ entry_before b k outage
before_agrees a b k outage same =
    ⊎_elim
    (λ h. before_below a k outage h ∙ sym (before_below b k outage h))
    (λ h. before_at a k outage h ∙ same h ∙ sym (before_at b k outage h))
    (cases_lt k outage)

-- the amount at k needs only entries that lie at least the least outage before k
pub amount_agrees : (least : ℕ) (states : List State) → AllByRecursion (λ s. least ≤ s.outage) states → (a b : List ℕ) (k : ℕ) → ((j : ℕ) → j + least ≤ k → get_or a j 0 ≡ get_or b j 0) → amount states a k ≡ amount states b k
amount_agrees least [] low a b k same = amount_none a k ∙ sym (amount_none b k)
amount_agrees least (s ∷ states) low a b k same =
    let far = low.0 in
    let here = before_agrees a b k s.outage (λ h. same (k - s.outage) (omega arith)) in
    let rest = amount_agrees least states low.1 a b k same in
    rw (amount_cons s states a k, amount_cons s states b k, here, rest)

-- what holds of every state holds of all in a list
pub all_of : {P : State → Type 0} → ((s : State) → P s) → (states : List State) → AllByRecursion P states
all_of h [] = tt
all_of h (s ∷ states) = (h s, all_of h states)

-- a mixture of entries is as near to the mixture of a sequence as each entry is to its term
module _ (entries : List ℕ) (t scale : ℕ) (x : ℕ → ℕ) (k : ℕ) where
  pub amount_over : (states : List State) → AllByRecursion (λ s. entry_before entries k s.outage * scale ≤ x (k - s.outage) + t * scale) states → amount states entries k * scale ≤ mixture states x k + weights states * (t * scale)
  amount_over [] near = rw (amount_none, mixture_none, weights_none) (omega arith)
  amount_over (s ∷ states) near =
      let rest = amount_over states near.1 in
      let here = mul-le-mul_left s.weight near.0 in
      rw (amount_cons, mixture_cons, weights_cons) (omega arith)

  pub amount_under : (states : List State) → AllByRecursion (λ s. x (k - s.outage) ≤ entry_before entries k s.outage * scale + t * scale) states → mixture states x k ≤ amount states entries k * scale + weights states * (t * scale)
  amount_under [] near = rw (amount_none, mixture_none, weights_none) (omega arith)
  amount_under (s ∷ states) near =
      let rest = amount_under states near.1 in
      let here = mul-le-mul_left s.weight near.0 in
      rw (amount_cons, mixture_cons, weights_cons) (omega arith)

-- a falling table that begins with certainty
module _ (old : List ℕ) (certain : get_or old 0 0 ≡ full) (falling : Falling old) where
  pub entry_le : (k : ℕ) → get_or old k 0 ≤ full
  entry_le zero = omega arith
  entry_le (suc k) = let less = rw add-one at (falling k) in let rest = entry_le k in omega arith

  -- a place below 0 reads as place 0 does
  pub before_is : (k outage : ℕ) → entry_before old k outage ≡ get_or old (k - outage) 0
  before_is k outage =
      ⊎_elim
      (λ h. let none : 0 ≡ k - outage = omega arith in before_below old k outage h ∙ sym certain ∙ ap (λ j. get_or old j 0) none)
      (before_at old k outage)
      (cases_lt k outage)

  pub amount_certain : (states : List State) → amount states old 0 ≡ weights states * full
  amount_certain [] = rw (amount_none, weights_none) refl
  amount_certain (s ∷ states) =
      let rest = amount_certain states in
      let none : 0 - s.outage ≡ 0 = omega arith in
      rw (amount_cons, weights_cons, before_is 0 s.outage, none, certain) (omega (arith, add-mul s.weight (weights states) full))

  before_falls : (k outage : ℕ) → entry_before old (k + 1) outage ≤ entry_before old k outage
  before_falls k outage =
      rw (before_is (k + 1) outage, before_is k outage)
      (⊎_elim
      (λ h. let low : k + 1 - outage ≡ k - outage = omega arith in rw low (le_refl _))
      (λ h. let up : k + 1 - outage ≡ k - outage + 1 = omega arith in rw up (falling (k - outage)))
      (cases_lt k outage))

  amount_falls : (states : List State) (k : ℕ) → amount states old (k + 1) ≤ amount states old k
  amount_falls [] k = rw (amount_none old (k + 1), amount_none old k) (omega arith)
  amount_falls (s ∷ states) k =
      let rest = amount_falls states k in
      let here = mul-le-mul_left s.weight (before_falls k s.outage) in
      rw (amount_cons s states old (k + 1), amount_cons s states old k) (omega arith)

  amount_zero : (m most : ℕ) (states : List State) → Outages most states → Zeros m old → (k : ℕ) → m + most < k → amount states old k ≡ 0
  amount_zero m most [] few zeros k h = amount_none old k
  amount_zero m most (s ∷ states) few zeros k h =
      let low = few.0 in
      let rest = amount_zero m most states few.1 zeros k h in
      let here : entry_before old k s.outage ≡ 0 = before_is k s.outage ∙ zeros (k - s.outage) (omega arith) in
      rw (amount_cons s states old k, here, rest) (omega arith)

  -- each place that the amount reads is within the tolerance
  module _ (t scale : ℕ) (x : ℕ → ℕ) (within : Within t scale x old) (k : ℕ) (inside : k < length old) where
    before_over : (s : State) → entry_before old k s.outage * scale ≤ x (k - s.outage) + t * scale
    before_over s = rw (before_is k s.outage) (within.over (k - s.outage) (omega arith))

    before_under : (s : State) → x (k - s.outage) ≤ entry_before old k s.outage * scale + t * scale
    before_under s = rw (before_is k s.outage) (within.under (k - s.outage) (omega arith))

-- the table once the places from k on are written
pub record Partly (answer : ℕ → ℕ → ℕ) (states : List State) (old new : List ℕ) (k : ℕ) : Type 0 where
  pub places : length new ≡ length old
  pub kept : (j : ℕ) → j < k → get_or new j 0 ≡ get_or old j 0
  pub made : (j : ℕ) → k ≤ j → j < length old → get_or new j 0 ≡ answer (amount states old j) million

-- each new entry, by its place
pub record Added (answer : ℕ → ℕ → ℕ) (states : List State) (old new : List ℕ) : Type 0 where
  pub places : length new ≡ length old
  pub entries : (k : ℕ) → k < length old → get_or new k 0 ≡ answer (amount states old k) million

pub added_is : (answer : ℕ → ℕ → ℕ) (states : List State) (old new : List ℕ) → Added answer states old new → new ≡ added answer states old
unfolding added
added_is answer states old new h =
    fill_by_all (λ k. answer (amount states old k) million) new (length old) 0 h.places (λ k inside. h.entries k inside)

-- what a rule with the laws answers for an amount and a million
module _ (answer : ℕ → ℕ → ℕ) (close : Close answer) (rising : Rising answer) where
  asked : (amount : ℕ) → amount ≤ million * full → Asked amount million
  asked amount h = record { amount_fits = omega arith; divisor_fits = omega arith; divisor_some = omega arith }

  answer_le : (amount : ℕ) → amount ≤ million * full → answer amount million ≤ full
  answer_le amount h = let near = (close amount million (asked amount h)).above in omega arith

  answer_full : answer (million * full) million ≡ full
  answer_full = let near = close (million * full) million (asked (million * full) (omega arith)) in omega (arith, near.above, near.below)

  answer_none : answer 0 million ≡ 0
  answer_none = let near = (close 0 million (asked 0 (omega arith))).above in omega arith

  module _ (states : List State) (shares : weights states ≡ million) (old : List ℕ) (certain : get_or old 0 0 ≡ full) (falling : Falling old) where
    old_le : (k : ℕ) → amount states old k ≤ million * full
    old_le k = rw shares at (amount_le old (entry_le old certain falling) states k)

    pub partly_le : (new : List ℕ) (k : ℕ) → Partly answer states old new k → (i : ℕ) → get_or new i 0 ≤ full
    partly_le new k h i =
        ⊎_elim
        (λ below. rw (h.kept i below) (entry_le old certain falling i))
        (λ above. ⊎_elim (λ inside. rw (h.made i above inside) (answer_le _ (old_le i))) (λ past. rw (get_or_past new i 0 (omega (arith, h.places))) (omega arith)) (cases_lt i (length old)))
        (cases_lt i k)

    -- one place more, from the top
    pub partly_more : (new : List ℕ) (k entry : ℕ) → k < length old → Partly answer states old new (k + 1) → entry ≡ answer (amount states new k) million → Partly answer states old (set new k entry) k
    partly_more new k entry inside h is =
        let within : k < length new = omega (arith, h.places) in
        let same = amount_agrees 0 states (all_of (λ s. omega arith) states) new old k (λ j le. h.kept j (omega arith)) in
        record {
          places = length-set new k entry ∙ h.places;
          kept = λ j below. let other : j ≢ k = omega arith in get_or-set_other new k j entry 0 other ∙ h.kept j (omega arith);
          made = λ j from in'.
              ⊎_elim
              (λ here. ap (λ i. get_or (set new k entry) i 0) here ∙ get_or-set_same new k entry 0 within ∙ is ∙ ap (λ a. answer a million) same ∙ ap (λ i. answer (amount states old i) million) (sym here))
              (λ other. get_or-set_other new k j entry 0 other ∙ h.made j (omega arith) in')
              (cases_eq j k);
        }

    module _ (new : List ℕ) (made : Added answer states old new) where
      inside_first : 0 < length old
      inside_first = ⊎_elim (λ h. h) (λ past. let none = get_or_past old 0 0 past in absurd (omega arith)) (cases_lt 0 (length old))

      pub added_certain : get_or new 0 0 ≡ full
      added_certain =
          made.entries 0 inside_first ∙ ap (λ a. answer a million) (amount_certain old certain falling states ∙ ap (λ w. w * full) shares) ∙ answer_full

      past_zero : (k : ℕ) → length old ≤ k → get_or new k 0 ≡ 0
      past_zero k past = get_or_past new k 0 (omega (arith, made.places))

      pub added_falling : Falling new
      added_falling k =
          ⊎_elim
          (λ inside.
          let here : k < length old = omega arith in
          rw (made.entries (k + 1) inside, made.entries k here)
          (rising (amount states old (k + 1)) (amount states old k) million (asked _ (old_le k)) (amount_falls old certain falling states k)))
          (λ past. rw (past_zero (k + 1) past) (omega arith))
          (cases_lt (k + 1) (length old))

      pub added_zeros : (m most : ℕ) → Outages most states → Zeros m old → Zeros (m + most) new
      added_zeros m most few zeros k above =
          ⊎_elim
          (λ inside. made.entries k inside ∙ ap (λ a. answer a million) (amount_zero old certain falling m most states few zeros k above) ∙ answer_none)
          (past_zero k)
          (cases_lt k (length old))

      pub added_within : (t scale : ℕ) (x : ℕ → ℕ) → Within t scale x old → Within (t + 1) (scale * million) (mixture states x) new
      added_within t scale x within = record {
        over = λ k h.
            let inside : k < length old = omega (arith, made.places) in
            let near = mul-le-mul_right scale (le_of_lt (close (amount states old k) million (asked _ (old_le k))).above) in
            let mixed = rw shares at (amount_over old t scale x k states (all_of (before_over old certain falling t scale x within k inside) states)) in
            rw (made.entries k inside) (omega arith);
        under = λ k h.
            let inside : k < length old = omega (arith, made.places) in
            let near = mul-le-mul_right scale (le_of_lt (close (amount states old k) million (asked _ (old_le k))).below) in
            let mixed = rw shares at (amount_under old t scale x k states (all_of (before_under old certain falling t scale x within k inside) states)) in
            rw (made.entries k inside) (omega arith);
      }
