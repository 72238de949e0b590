use Rattle.std.proofs.Common.{◌≡◌, ℕ, ◌-◌, ◌≤◌, ◌&&◌, eqb, List, length, get_or, take, drop, sym, ap, ◌∙◌, rules}
use Rattle.std.proofs.lemmas.Bool.{and_left, le-leb, false≢true}
use Rattle.rounding.specs.Mixture.{million, weights}
use Rattle.rounding.specs.declared.state.State.{State}
use Rattle.fleet.specs.States.{starts, later, lawful}
use Rattle.fleet.proofs.Lawful.{lawful_none, lawful_many, lawful_apart, and_true}
use Rattle.fleet.proofs.states.lawful.Goals.{then-starts, else-starts}
use Rattle.fleet.proofs.states.lawful.Goals as goal

abbrev nothing : State
nothing = record { outage = 0; weight = 0 }

-- at most eight states that are some
judged : (capacity : ℕ) (states : List State) → 1 ≤ length states → length states ≤ 8 → lawful capacity states ≡ starts (get_or states 0 nothing) && (later capacity (get_or states 0 nothing).outage (take (length states - 1) (drop 1 states)) && eqb (weights states) million)
judged capacity states some few = lawful_apart capacity states nothing some ∙ and_true _ _ (le-leb _ 8 few)

pub returns-in_default : goal.returns-in_default
returns-in_default c = sym (lawful_none c.args.capacity c.args.states.now (search rules))

pub returns-then-states-gt-STATES : goal.returns-then-states-gt-STATES
returns-then-states-gt-STATES c = sym (lawful_many c.args.capacity c.args.states.now c.if-states-gt-STATES.true)

pub returns-else-later : goal.returns-else-later
returns-else-later c =
    let said = judged c.args.capacity c.args.states.now (search rules) c.if-states-gt-STATES.false in
    c.if-later.false
    ∙ sym
    (elim c.if-starts.branch [ then-starts w ↦ said ∙ and_true _ _ (sym c.starts.ensures ∙ w.if-starts.true) ∙ and_left _ _ (sym w.later.ensures ∙ sym w.value-is ∙ c.if-later.false) | else-starts w ↦ said ∙ and_left _ _ (sym c.starts.ensures ∙ w.if-starts.false) ])

pub returns-then-later : goal.returns-then-later
returns-then-later c =
    let said = judged c.args.capacity c.args.states.now (search rules) c.if-states-gt-STATES.false in
    sym
    (elim c.if-starts.branch [ then-starts w ↦ said ∙ and_true _ _ (sym c.starts.ensures ∙ w.if-starts.true) ∙ and_true _ _ (sym w.later.ensures ∙ sym w.value-is ∙ c.if-later.true) ∙ ap (λ n. eqb n million) (sym c.total_weight.ensures) ∙ ap (eqb c.total_weight.result) (sym c.from.ensures) | else-starts w ↦ absurd (false≢true (sym w.if-starts.false ∙ sym w.value-is ∙ c.if-later.true)) ])
