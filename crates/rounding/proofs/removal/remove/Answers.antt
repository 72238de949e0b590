use Rattle.std.proofs.Common.{◌-◌, ◌*◌, List, length, get_or, take, drop, sym, ap, ◌∙◌, subst, arith, rules}
use Rattle.rounding.specs.Table.{Within}
use Rattle.rounding.specs.Mixture.{million, mixture}
use Rattle.rounding.specs.Tolerance.{removal_tolerance}
use Rattle.rounding.specs.Removing.{first_weight, without}
use Rattle.rounding.specs.declared.state.State.{State}
use Rattle.rounding.proofs.Reverse.{Removed, states_apart, Asked_of, asked_of, partly_le, partly_more, without_is, without_certain, without_falling, without_zeros, without_within}
use Rattle.rounding.proofs.removal.remove.Goals.{In-len1-up}
use Rattle.rounding.proofs.removal.remove.Goals as goal

abbrev nothing : State
nothing = record { outage = 0; weight = 0 }

abbrev rest_of : List State → List State
rest_of states = take (length states - 1) (drop 1 states)

-- the first state and the rest keep what is asked of the states
asks : (g : _) (c : In-len1-up g) → Asked_of (get_or c.args.states.now 0 nothing) (rest_of c.args.states.now)
asks g c =
    let p = c.requires in
    asked_of c.args.states.now _ _ (states_apart c.args.states.now nothing (search rules)) p.shares p.starting p.mostly

pub invariant_of-place : goal.invariant_of-place
invariant_of-place g c =
    let of = asks g (goal.at.invariant_of-place g c).In-len1-up in
    record { within = omega arith; fit = partly_le _ _ _ of.later _ _ _ _ c.requires.certain c.requires.falling c.loop-k.invariant }

pub entry_without-requires : goal.entry_without-requires
entry_without-requires g c = let of = asks g (goal.at.entry_without-requires g c).In-len1-up in omega (arith, of.shares)

pub loop-k-preserved : goal.loop-k-preserved
loop-k-preserved g c =
    let of = asks g (goal.at.loop-k-preserved g c).In-len1-up in
    partly_more _ _ _ of.later _ _ _ _ _ c.loop-k-test.true c.loop-k.invariant c.entry_without.ensures

pub returns : goal.returns
returns g c =
    let of = asks g (goal.at.returns g c).In-len1-up in
    let close = g.met.R.Rounding.close c.args.rule.now in
    let p = c.requires in
    let apart = states_apart c.args.states.now nothing (search rules) in
    let made : Removed (g.R.Rounding.answer c.args.rule.now) (get_or c.args.states.now 0 nothing) (rest_of c.args.states.now) c.args.greatest c.args.entries.now c.loop-k.entries = record { places = c.loop-k.invariant.places; entries = λ k h. c.loop-k.invariant.made k (omega arith) } in
    record {
      entries = without_is _ _ _ of.later _ _ _ made ∙ ap (λ states. without (g.R.Rounding.answer c.args.rule.now) states c.args.greatest c.args.entries.now) (sym apart);
      certain = without_certain _ _ _ of.later _ close of.high of.shares _ _ p.certain p.falling made;
      falling = without_falling _ _ _ of.later _ close of.high of.shares _ _ p.certain p.falling made;
      zeros = without_zeros _ _ _ of.later _ close of.high of.shares _ _ p.certain p.falling made;
      error = λ t scale x tail within.
          subst (λ states. Within (removal_tolerance (first_weight states) t) scale x c.loop-k.entries) (sym apart)
          (without_within _ _ _ of.later _ close of.high of.shares _ _ p.certain p.falling made of.starts t scale x tail
          (subst (λ states. Within t (scale * million) (mixture states x) c.args.entries.now) apart within));
    }
