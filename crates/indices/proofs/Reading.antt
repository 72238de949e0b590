-- What each step of a reader does to what is unread. Assumes nothing.
use Rattle.std.proofs.Common.{◌≡◌, ℕ, ◌+◌, ◌<◌, ◌≤◌, true, false, ◌&&◌, ltb, ◌⊎◌, List, [], ◌∷◌, length, get_or, take, drop, Some, sym, refl, ap, ◌∙◌, ⊎_elim, arith, length-drop}
use Rattle.std.proofs.lemmas.Bool.{cases_Bool, le-ltb, and_left, and_right}
use Rattle.indices.specs.declared.fault.Reason.TheVariants.{NoLineFeed}
use Rattle.indices.specs.declared.text.Reader.{Reader}
use Rattle.indices.specs.Byte.{kind}
use Rattle.indices.specs.Fault.{fault_of_line}
use Rattle.indices.specs.Text.{Line, with_field, lines, complete, feed}
use Rattle.indices.specs.End.{blank}
use Rattle.indices.specs.Reader.{unread, AtStart, FieldRead, LineEnded, Last}
use Rattle.indices.proofs.Lines.{Begun, Cut, behind, lines_begun, not_blank, only_line, field_text}

pub unread_open : (r : Reader) → r.ended ≡ false → unread r ≡ lines r.rest.now
unread_open r unended = ap (λ e. behind e (lines r.rest.now)) unended

-- the reader stands behind the byte that ended the field
pub record Moved (was is : Reader) (n : ℕ) : Type 0 where
  pub rest : is.rest.now ≡ drop (n + 1) was.rest.now
  pub line : is.line ≡ was.line
  pub place : is.place ≡ was.place + 1
  pub ended : is.ended ≡ feed (kind (get_or was.rest.now n 0))

module _ (was is : Reader) (n : ℕ) (unended : was.ended ≡ false) (whole : complete (lines was.rest.now) ≡ true) (cut : Cut was.rest.now n) (moved : Moved was is n) where
  abbrev front : List ℕ
  front = take n was.rest.now

  first : lines was.rest.now ≡ with_field front (unread is)
  first = field_text was.rest.now n cut ∙ ap (with_field front) (sym (λ i. behind (moved.ended i) (lines (moved.rest i))))

  pub field_read : FieldRead was front was.line (was.place + 1) is
  field_read =
      let left = ap length moved.rest ∙ length-drop (n + 1) was.rest.now in
      record {
        text = unread_open was unended ∙ first;
        line_is = refl;
        place_is = refl;
        same_line = moved.line;
        next_place = moved.place;
        shorter = omega (arith, cut.within);
      }

pub unfed : (r : Reader) → r.ended ≡ false → complete (lines r.rest.now) ≡ false → (r.line ≤ 1) ⊎ (0 < length r.rest.now) → Last r.line (unread r) (Some (fault_of_line NoLineFeed r.line))
unfed r unended short why =
    let b = lines_begun r.rest.now in
    let l : Line = b.field ∷ b.fields in
    let only : lines r.rest.now ≡ l ∷ [] = b.is ∙ ap (λ ls. l ∷ ls) (only_line l b.later (ap complete (sym b.is) ∙ short)) in
    let not_end : (ltb 1 r.line && blank l) ≡ false =
    ⊎_elim (λ h. and_left _ _ (le-ltb 1 r.line h)) (λ h. and_right (ltb 1 r.line) _ (not_blank r.rest.now l h only)) why in
    record { last = l; text = unread_open r unended ∙ only; is = rw not_end refl }

-- once a field is read, the line is known to have its line feed
pub whole_begun : (r : Reader) → 0 < r.place → complete (unread r) ≡ true
whole_begun r h =
    ⊎_elim
    (λ e. let b = lines_begun r.rest.now in ap (λ t. complete (behind t (lines r.rest.now))) e ∙ ap (λ ls. complete ([] ∷ ls)) b.is)
    (λ e. ap complete (unread_open r e) ∙ r.whole h e)
    (cases_Bool r.ended)

pub start_after : (was is : Reader) → LineEnded was is → AtStart is
start_after was is end = record { no_place = end.no_place; unended = end.not_ended }

pub begun_after : (was is : Reader) → LineEnded was is → Begun (unread is)
begun_after was is end = rw (unread_open is end.not_ended) (lines_begun is.rest.now)
