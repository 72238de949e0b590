use Rattle.std.proofs.Common.{◌≡◌, ◌+◌, length, sym, refl, ap, ◌∙◌, subst, arith, length-drop}
use Rattle.std.proofs.lemmas.List.{take_rest}
use Rattle.indices.specs.Text.{feed}
use Rattle.indices.proofs.Lines.{Cut, first_cut, first_end, first_end_is, complete_behind}
use Rattle.indices.proofs.Reading.{field_read}
use Rattle.indices.proofs.text.Reader.field.Goals as goal
use Rattle.indices.proofs.text.Reader.field.Goals.{After-unwrap-length}

pub unwrap-length-requires : goal.unwrap-length-requires
unwrap-length-requires c = rw (c.field_end.ensures, first_end_is c.args.self.now.rest.now c.requires.whole) refl

cut : (c : After-unwrap-length) → Cut c.args.self.now.rest.now c.unwrap-length.result
cut c =
    let found = sym (first_end_is c.args.self.now.rest.now c.requires.whole) ∙ (sym c.field_end.ensures ∙ c.unwrap-length.ensures) in
    let here : first_end c.args.self.now.rest.now ≡ c.unwrap-length.result = cc in
    subst (Cut c.args.self.now.rest.now) here (first_cut c.args.self.now.rest.now c.requires.whole)

pub invariant_of-self : goal.invariant_of-self
invariant_of-self c =
    let here = cut (goal.at.invariant_of-self c).After-unwrap-length in
    let rest = take_rest c.args.self.now.rest.now (c.unwrap-length.result + 1) in
    let left = ap length rest ∙ length-drop (c.unwrap-length.result + 1) c.args.self.now.rest.now in
    record {
      fits = omega (arith, here.within, c.args.self.now.fits);
      begun = λ _. omega arith;
      whole = λ _ on. rw rest (complete_behind _ _ here c.requires.whole (ap feed (sym c.from.ensures) ∙ (sym c.ends_line-self.ensures ∙ on)));
    }

pub returns : goal.returns
returns c =
    field_read c.args.self.now _ c.unwrap-length.result c.requires.unended c.requires.whole (cut (goal.at.returns c).After-unwrap-length)
    (record { rest = take_rest c.args.self.now.rest.now _; line = refl; place = refl; ended = c.ends_line-self.ensures ∙ ap feed c.from.ensures })
