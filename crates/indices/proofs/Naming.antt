-- What a sheet says while line 1 is being read. Assumes nothing.
use Rattle.std.proofs.Common.{◌≡◌, ℕ, ◌+◌, ◌<◌, true, false, cond, List, [], ◌∷◌, ◌++◌, length, Some, None, Ok, Err, Option, Result, IsOk, IfOk, IsErrAnd, MatchResult, ◌↔◌, sym, refl, ap, ◌∙◌, subst, arith}
use Rattle.std.proofs.lemmas.Result.{err_from_is_err_and}
use Rattle.indices.specs.declared.fault.Fault.{Fault}
use Rattle.indices.specs.declared.fault.Reason.TheVariants.{Names}
use Rattle.indices.specs.declared.names.Column.{Column}
use Rattle.indices.specs.declared.text.Reader.{Reader}
use Rattle.indices.specs.Fault.{fault_at, fault_of_line}
use Rattle.indices.specs.Names.{column, among, all, fresh, order}
use Rattle.indices.specs.End.{final}
use Rattle.indices.specs.Reader.{unread, FieldRead, LineEnded}
use Rattle.indices.specs.Rows.{NamesRead}
use Rattle.indices.specs.Sheet.{Sheet, no_rows, below_names, text}
use Rattle.indices.specs.Text.{Line, with_field, complete}
use Rattle.indices.proofs.Columns.{Once, once_push, five_at_most, room, all_five, not_all}
use Rattle.indices.proofs.Lines.{Begun}
use Rattle.indices.proofs.Reading.{whole_begun, start_after, begun_after}

-- what a sheet says, the fields before a place of line 1 being read
abbrev pub named : List Column → ℕ → List Line → Sheet
named before place [] = no_rows None
named before place (l ∷ []) = no_rows (final 1 l)
named before place (l ∷ m ∷ ls) = below_names (order before place l) (m ∷ ls)

named_wrong : (before : List Column) (place : ℕ) (f : List ℕ) (ls : List Line) → complete ls ≡ true → fresh before (column f) ≡ None → named before place (with_field f ls) ≡ below_names (Err place) ls
named_wrong before place f [] whole h = cc
named_wrong before place f (l ∷ []) whole h = cc
named_wrong before place f (l ∷ m ∷ ls) whole h = rw (h, order, below_names)

named_next : (before : List Column) (place : ℕ) (f : List ℕ) (ls : List Line) (c : Column) → complete ls ≡ true → fresh before (column f) ≡ Some c → named before place (with_field f ls) ≡ named (before ++ (c ∷ [])) (place + 1) ls
named_next before place f [] c whole h = cc
named_next before place f (l ∷ []) c whole h = cc
named_next before place f (l ∷ m ∷ ls) c whole h = rw (h, order, below_names)

named_over : (before : List Column) (place : ℕ) (ls : List Line) → Begun ls → named before place ([] ∷ ls) ≡ below_names (cond (all before) (Ok before) (Err 0)) ls
named_over before place [] h = let e = h.is in cc
named_over before place (l ∷ ls) h = refl

new_among : (before : List Column) (o : Option Column) (c : Column) → fresh before o ≡ Some c → among c before ≡ false
new_among before None c h = cc
new_among before (Some d) c h = grind arith

-- line 1 of what `was` has unread is being read, and these are its columns so far
pub record Naming (was is : Reader) (columns : List Column) : Type 0 where
  pub says : text (unread was) ≡ named columns (is.place + 1) (unread is)
  pub line : is.line ≡ 1
  pub once : Once columns

module _ (was mid is : Reader) (columns : List Column) (h : Naming was mid columns) where
  module _ (f : List ℕ) (line place : ℕ) (read : FieldRead mid f line place is) where
    whole : complete (unread is) ≡ true
    whole = whole_begun is (omega (arith, read.next_place))

    pub naming_wrong : fresh columns (column f) ≡ None → text (unread was) ≡ no_rows (Some (fault_at Names line place))
    naming_wrong bad =
        h.says ∙ ap (named columns (mid.place + 1)) read.text ∙ named_wrong columns (mid.place + 1) f (unread is) whole bad ∙ (λ i. no_rows (Some (fault_at Names (sym (read.line_is ∙ h.line) i) (sym read.place_is i))))

    module _ (c : Column) (new : fresh columns (column f) ≡ Some c) where
      other : among c columns ≡ false
      other = new_among columns (column f) c new

      pub naming_room : length columns < 5
      naming_room = room columns c h.once other

      pub naming_more : (next : List Column) → next ≡ columns ++ (c ∷ []) → Naming was is next
      naming_more next pushed =
          record {
            says =
                h.says ∙ ap (named columns (mid.place + 1)) read.text ∙ named_next columns (mid.place + 1) f (unread is) c whole new ∙ (λ i. named (sym pushed i) (sym read.next_place i + 1) (unread is));
            line = read.same_line ∙ h.line;
            once = subst Once (sym pushed) (once_push columns c h.once other);
          }

  module _ (end : LineEnded mid is) where
    over : text (unread was) ≡ below_names (cond (all columns) (Ok columns) (Err 0)) (unread is)
    over = h.says ∙ ap (named columns (mid.place + 1)) end.text ∙ named_over columns (mid.place + 1) (unread is) (begun_after mid is end)

    pub naming_short : (length columns ≡ 5 → ⊥) → text (unread was) ≡ no_rows (Some (fault_of_line Names 1))
    naming_short short =
        let most = five_at_most columns h.once in
        over ∙ ap (λ t. below_names (cond t (Ok columns) (Err 0)) (unread is)) (not_all columns h.once (omega arith))

    pub naming_all : length columns ≡ 5 → NamesRead was columns is
    naming_all five =
        record {
          says = over ∙ ap (λ t. below_names (cond t (Ok columns) (Err 0)) (unread is)) (all_five columns h.once five);
          five = five;
          start = start_after mid is end;
          line = omega (arith, end.next_line, h.line);
        }

    -- what is told of line 1: its columns where they are all there
    pub naming_told : {E : Type 0} (all_there : Result (List Column) E) (told : Result (List Column) Fault) (Q : E → Fault → Type 0) → ((e : E) (fault : Fault) → Q e fault → fault ≡ fault_of_line Names 1) → (IsOk all_there ↔ (length columns ≡ 5)) → IfOk all_there (λ cs. cs ≡ columns) → MatchResult all_there (λ cs. told ≡ Ok cs) (λ e. IsErrAnd told (Q e)) → MatchResult told (λ cs. NamesRead was cs is) (λ fault. text (unread was) ≡ no_rows (Some fault))
    naming_told (Ok cs) told Q from five same is = rw (is, same) (naming_all (five.0 refl))
    naming_told (Err e) told Q from five same is =
        let p = err_from_is_err_and told is in
        rw (p.1, from e _ p.2) (naming_short (λ h. let z = five.1 h in cc))
