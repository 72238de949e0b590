-- The rules on states, taken apart as first and rest. Assumes nothing.
use Rattle.std.proofs.Common.{◌≡◌, ℕ, suc, ◌+◌, ◌-◌, ◌<◌, ◌≤◌, Bool, true, false, ◌&&◌, eqb, ltb, leb, List, [], ◌∷◌, length, get_or, take, drop, sym, refl, ap, le_refl, arith}
use Rattle.std.specs.List.{AllByRecursion, slice_get}
use Rattle.std.specs.Option.{option_map, unwrap_or}
use Rattle.std.proofs.ByRecursion.{All-weaker}
use Rattle.std.proofs.lemmas.List.{at_drop_more, at_drop_all, take_rest}
use Rattle.std.proofs.lemmas.List.Sums.{sum_by-cons}
use Rattle.std.proofs.lemmas.Bool.{and_parts, and_left, lt-leb, ltb-true, leb-true, eqb-true, false≢true}
use Rattle.rounding.specs.Mixture.{million, weights, Outages}
use Rattle.rounding.specs.Removing.{Starting, first_weight}
use Rattle.rounding.specs.declared.state.State.{State}
use Rattle.fleet.specs.States.{starts, follows, later, lawful, outage_of_last}

pub later_more : (capacity before : ℕ) (states : List State) (i : ℕ) (d : State) → i < length states → later capacity before (drop i states) ≡ follows capacity before (get_or states i d) && later capacity (get_or states i d).outage (drop (i + 1) states)
unfolding later
later_more capacity before states i d h = at_drop_more (later capacity before) states i d h

pub later_all : (capacity before : ℕ) (states : List State) (i : ℕ) → length states ≤ i → later capacity before (drop i states) ≡ true
unfolding later
later_all capacity before states i h = at_drop_all (later capacity before) states i h

pub and_true : (x y : Bool) → x ≡ true → (x && y) ≡ y
and_true x y h = ap (λ b. b && y) h

pub lawful_none : (capacity : ℕ) (states : List State) → length states < 1 → lawful capacity states ≡ false
unfolding lawful
lawful_none capacity [] h = refl
lawful_none capacity (s ∷ states) h = absurd (omega arith)

pub lawful_many : (capacity : ℕ) (states : List State) → 8 < length states → lawful capacity states ≡ false
unfolding lawful
lawful_many capacity [] h = refl
lawful_many capacity (s ∷ states) h = and_left _ _ (lt-leb _ 8 h)

weights_cons : (s : State) (states : List State) → weights (s ∷ states) ≡ s.weight + weights states
unfolding weights
weights_cons s states = sum_by-cons (λ (t : State). t.weight) s states

-- as `[first, rest @ ..]` takes the list apart
pub lawful_apart : (capacity : ℕ) (states : List State) (d : State) → 1 ≤ length states → lawful capacity states ≡ leb (length states) 8 && (starts (get_or states 0 d) && (later capacity (get_or states 0 d).outage (take (length states - 1) (drop 1 states)) && eqb (weights states) million))
unfolding lawful
lawful_apart capacity [] d h = absurd (omega arith)
lawful_apart capacity (s ∷ states) d h =
    let rest = take_rest (s ∷ states) 1 in
    ap (λ r. leb (length (s ∷ states)) 8 && (starts s && (later capacity s.outage r && eqb (weights (s ∷ states)) million))) (sym rest)

pub last_is : (states : List State) → outage_of_last states ≡ unwrap_or (option_map (λ s. s.outage) (slice_get states (length states - 1))) 0
unfolding outage_of_last
last_is [] = refl
last_is (s ∷ []) = refl
last_is (s ∷ t ∷ states) =
    let up : suc (suc (length states)) - 1 ≡ suc (suc (length states) - 1) = omega arith in
    rw up (last_is (t ∷ states))

-- the last outage is the greatest, and not above the capacity
later_last : (capacity : ℕ) (s : State) (states : List State) → later capacity s.outage states ≡ true → s.outage ≤ capacity → Outages (outage_of_last (s ∷ states)) (s ∷ states) × (outage_of_last (s ∷ states) ≤ capacity)
unfolding later outage_of_last
later_last capacity s [] h low = ((le_refl s.outage, tt), low)
later_last capacity s (t ∷ states) h low =
    let parts = and_parts (follows capacity s.outage t) (later capacity t.outage states) h in
    let here = and_parts (ltb s.outage t.outage) _ parts.0 in
    let up = ltb-true s.outage t.outage here.0 in
    let held = leb-true t.outage capacity (and_parts _ _ here.1).0 in
    let rest = later_last capacity t states parts.1 held in
    let most = rest.0.0 in
    ((omega arith, rest.0), rest.1)

-- each later state has more out than the one before the first of them
later_above : (capacity before : ℕ) (states : List State) → later capacity before states ≡ true → AllByRecursion (λ s. before < s.outage) states
unfolding later
later_above capacity before [] h = tt
later_above capacity before (s ∷ states) h =
    let parts = and_parts (follows capacity before s) (later capacity s.outage states) h in
    let up = ltb-true before s.outage (and_parts (ltb before s.outage) _ parts.0).0 in
    (up, All-weaker (λ t. s.outage < t.outage) (λ t. before < t.outage) (λ t more. omega arith) states (later_above capacity s.outage states parts.1))

-- what the rules on states give
pub record Ruled (capacity : ℕ) (states : List State) : Type 0 where
  pub shares : weights states ≡ million
  pub starting : Starting states
  pub weight_held : first_weight states ≤ million
  pub outages : Outages (outage_of_last states) states
  pub held : outage_of_last states ≤ capacity

pub ruled : (capacity : ℕ) (states : List State) → lawful capacity states ≡ true → Ruled capacity states
unfolding lawful
ruled capacity [] h = absurd (false≢true h)
ruled capacity (s ∷ states) h =
    let parts = and_parts (leb (length (s ∷ states)) 8) _ h in
    let starting = and_parts (starts s) _ parts.1 in
    let ending = and_parts (later capacity s.outage states) _ starting.1 in
    let none = eqb-true s.outage 0 (and_parts _ _ starting.0).0 in
    let last = later_last capacity s states ending.0 (omega arith) in
    record {
      shares = eqb-true _ _ ending.1;
      starting = (none, All-weaker (λ t. s.outage < t.outage) (λ t. 1 ≤ t.outage) (λ t more. omega arith) states (later_above capacity s.outage states ending.0));
      weight_held = let all = weights_cons s states in omega (arith, eqb-true _ _ ending.1);
      outages = last.0;
      held = last.1;
    }
