-- What is known while a line of values is being read. Assumes nothing.
use Rattle.std.proofs.Common.{◌≡◌, ℕ, ◌+◌, ◌<◌, ◌≤◌, true, ◌⊎◌, List, [], ◌∷◌, ◌++◌, map, length, take, Some, None, Ok, Err, Result, IsOk, OnOk, OnErr, ◌↔◌, inl, inr, sym, refl, ap, ◌∙◌, ⊎_elim, arith}
use Rattle.std.specs.Option.{option_or}
use Rattle.std.proofs.lemmas.List.{append_assoc, length_push, take-append-le}
use Rattle.std.proofs.lemmas.Bool.{cases_lt}
use Rattle.indices.specs.declared.fault.Fault.{Fault}
use Rattle.indices.specs.declared.names.Column.{Column}
use Rattle.indices.specs.declared.text.Reader.{Reader}
use Rattle.indices.specs.Reader.{unread, FieldRead}
use Rattle.indices.specs.Sheet.{no_rows, below}
use Rattle.indices.specs.Text.{Line, with_field, complete}
use Rattle.indices.specs.Value.{value, wrong, located, first_wrong}
use Rattle.indices.proofs.Lines.{complete_field}
use Rattle.indices.proofs.Reading.{whole_begun}

abbrev first : List Line → Line
first [] = []
first (l ∷ ls) = l

abbrev later : List Line → List Line
later [] = []
later (l ∷ ls) = ls

first_field : (f : List ℕ) (ls : List Line) → complete ls ≡ true → first (with_field f ls) ≡ f ∷ first ls
first_field f [] h = cc
first_field f (l ∷ ls) h = refl

later_field : (f : List ℕ) (ls : List Line) → later (with_field f ls) ≡ later ls
later_field f [] = refl
later_field f (l ∷ ls) = refl

below_wrong : (columns : List Column) (line : ℕ) (ls : List Line) (fault : Fault) → complete ls ≡ true → first_wrong line 1 (first ls) ≡ Some fault → below columns line ls ≡ no_rows (Some fault)
below_wrong columns line [] fault whole h = cc
below_wrong columns line (l ∷ []) fault whole h = cc
below_wrong columns line (l ∷ m ∷ ls) fault whole h = rw (h, below)

-- a value is kept, where six are not kept yet
pub Kept : List ℕ → ℕ → List ℕ → Type 0
Kept values v next = ((next ≡ values ++ v ∷ []) × (length values < 6)) ⊎ ((next ≡ values) × (length values ≡ 6))

kept_few : (values next : List ℕ) (v : ℕ) → Kept values v next → length next ≤ 6
unfolding Kept
kept_few values next v =
    ⊎_elim
    (λ more. let long = length_push values v in omega (arith, ap length more.0, more.1))
    (λ full. omega (arith, ap length full.0, full.1))

kept_first : (values next rest : List ℕ) (v : ℕ) → Kept values v next → take 6 (values ++ v ∷ rest) ≡ take 6 (next ++ rest)
unfolding Kept
kept_first values next rest v =
    ⊎_elim
    (λ more. ap (take 6) (sym (append_assoc values (v ∷ []) rest) ∙ ap (λ l. l ++ rest) (sym more.0)))
    (λ full. take-append-le 6 values (v ∷ rest) (omega (arith, full.1)) ∙ sym (take-append-le 6 values rest (omega (arith, full.1))) ∙ ap (λ l. take 6 (l ++ rest)) (sym full.0))

-- what `try_push` says
pub kept_from : {E : Type 0} (values next : List ℕ) (v : ℕ) (r : Result (Unit {0}) E) → (IsOk r ↔ (length values < 6)) → OnOk r (next ≡ values ++ v ∷ []) → OnErr r (next ≡ values) → OnErr r (length values ≡ 6) → Kept values v next
unfolding Kept
kept_from values next v (Ok _) room pushed same full = inl (pushed, room.0 refl)
kept_from values next v (Err _) room pushed same full = inr (same, full)

-- the line that `was` stands before is being read, and these are its values so far
pub record Valuing (was is : Reader) (values : List ℕ) : Type 0 where
  pub line : is.line ≡ was.line
  pub begun : is.place ≡ 0 → unread is ≡ unread was
  pub whole : 0 < is.place → complete (unread was) ≡ true
  pub rest : later (unread was) ≡ later (unread is)
  pub right : first_wrong was.line 1 (first (unread was)) ≡ first_wrong was.line (is.place + 1) (first (unread is))
  pub few : length values ≤ 6
  pub kept : take 6 (map value (first (unread was))) ≡ take 6 (values ++ map value (first (unread is)))
  pub used : length is.rest.now + is.place ≤ length was.rest.now

module _ (was mid is : Reader) (values : List ℕ) (h : Valuing was mid values) where
  module _ (f : List ℕ) (line place : ℕ) (read : FieldRead mid f line place is) where
    on : complete (unread is) ≡ true
    on = whole_begun is (omega (arith, read.next_place))

    fields : first (unread mid) ≡ f ∷ first (unread is)
    fields = ap first read.text ∙ first_field f (unread is) on

    lines_after : later (unread was) ≡ later (unread is)
    lines_after = h.rest ∙ ap later read.text ∙ later_field f (unread is)

    whole_line : complete (unread was) ≡ true
    whole_line =
        ⊎_elim
        h.whole
        (λ none. ap complete (sym (h.begun (omega arith)) ∙ read.text) ∙ complete_field f (unread is) ∙ on)
        (cases_lt 0 mid.place)

    judged : first_wrong was.line 1 (first (unread was)) ≡ option_or (located line place (wrong f)) (first_wrong was.line (mid.place + 1 + 1) (first (unread is)))
    judged =
        h.right ∙ ap (first_wrong was.line (mid.place + 1)) fields ∙ (λ i. option_or (located (sym (read.line_is ∙ h.line) i) (sym read.place_is i) (wrong f)) (first_wrong was.line (mid.place + 1 + 1) (first (unread is))))

    pub valuing_wrong : (fault : Fault) → located line place (wrong f) ≡ Some fault → (columns : List Column) → below columns was.line (unread was) ≡ no_rows (Some fault)
    valuing_wrong fault bad columns =
        below_wrong columns was.line (unread was) fault whole_line (judged ∙ ap (λ o. option_or o (first_wrong was.line (mid.place + 1 + 1) (first (unread is)))) bad)

    pub valuing_more : (v : ℕ) (next : List ℕ) → wrong f ≡ None → v ≡ value f → Kept values v next → Valuing was is next
    valuing_more v next good is-value kept =
        record {
          line = read.same_line ∙ h.line;
          begun = λ e. absurd (omega (arith, read.next_place));
          whole = λ _. whole_line;
          rest = lines_after;
          right =
              judged ∙ ap (λ o. option_or (located line place o) (first_wrong was.line (mid.place + 1 + 1) (first (unread is)))) good ∙ ap (λ p. first_wrong was.line (p + 1) (first (unread is))) (sym read.next_place);
          few = kept_few values next v kept;
          kept =
              h.kept ∙ ap (λ l. take 6 (values ++ map value l)) fields ∙ ap (λ x. take 6 (values ++ x ∷ map value (first (unread is)))) (sym is-value) ∙ kept_first values next (map value (first (unread is))) v kept;
          used = omega (arith, h.used, read.next_place, read.shorter);
        }
