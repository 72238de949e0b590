-- Laws of a text's lines. Assumes nothing.
use Rattle.std.proofs.Common.{◌≡◌, ℕ, zero, suc, ◌+◌, ◌<◌, Bool, true, false, cond, ◌||◌, List, [], ◌∷◌, length, get_or, take, drop, Some, sym, refl, ap, ◌∙◌, ⊎_elim, add-one, arith}
use Rattle.std.specs.List.{list_any, position, position_or_len}
use Rattle.std.proofs.lemmas.List.Sums.{fails_before_first, passes_at_first}
use Rattle.std.proofs.lemmas.Bool.{both_ways, cases_lt, cases_Bool, or_left, cond-true, lt-ltb}
use Rattle.indices.specs.declared.byte.Kind.{Kind}
use Rattle.indices.specs.declared.byte.Kind.TheVariants.{Comma, LineFeed, Digit, Other}
use Rattle.indices.specs.Byte.{kind}
use Rattle.indices.specs.End.{blank}
use Rattle.indices.specs.Text.{Line, with_field, with_byte, begun, lines, complete, ends, feed}

-- a text has a line, and a line has a field
pub record Begun (ls : List Line) : Type 0 where
  pub field : List ℕ
  pub fields : Line
  pub later : List Line
  pub is : ls ≡ (field ∷ fields) ∷ later

begun_begun : (k : Kind) (b : ℕ) (f : List ℕ) (fs : Line) (ls : List Line) → Begun (begun k b ((f ∷ fs) ∷ ls))
begun_begun Comma b f fs ls = record { field = []; fields = f ∷ fs; later = ls; is = refl }
begun_begun LineFeed b f fs ls = record { field = []; fields = []; later = (f ∷ fs) ∷ ls; is = refl }
begun_begun (Digit d) b f fs ls = record { field = b ∷ f; fields = fs; later = ls; is = refl }
begun_begun Other b f fs ls = record { field = b ∷ f; fields = fs; later = ls; is = refl }

pub lines_begun : (bs : List ℕ) → Begun (lines bs)
lines_begun [] = record { field = []; fields = []; later = []; is = refl }
lines_begun (b ∷ bs) = let h = lines_begun bs in rw h.is (begun_begun (kind b) b h.field h.fields h.later)

-- only a blank line is left
abbrev over : List Line → Bool
over [] = false
over (l ∷ []) = blank l
over (l ∷ m ∷ ls) = false

begun_on : (k : Kind) (b : ℕ) (f : List ℕ) (fs : Line) (ls : List Line) → over (begun k b ((f ∷ fs) ∷ ls)) ≡ false
begun_on Comma b f fs [] = refl
begun_on Comma b f fs (m ∷ ls) = refl
begun_on LineFeed b f fs ls = refl
begun_on (Digit d) b f fs [] = refl
begun_on (Digit d) b f fs (m ∷ ls) = refl
begun_on Other b f fs [] = refl
begun_on Other b f fs (m ∷ ls) = refl

pub not_blank : (bs : List ℕ) (l : Line) → 0 < length bs → lines bs ≡ l ∷ [] → blank l ≡ false
not_blank [] l h e = absurd (omega arith)
not_blank (b ∷ bs) l h e =
    let r = lines_begun bs in
    ap over (sym e) ∙ ap (λ ls. over (begun (kind b) b ls)) r.is ∙ begun_on (kind b) b r.field r.fields r.later

pub only_line : (l : Line) (ls : List Line) → complete (l ∷ ls) ≡ false → ls ≡ []
only_line l [] h = refl
only_line l (m ∷ ls) h = cc

complete_byte : (b : ℕ) (ls : List Line) → complete (with_byte b ls) ≡ complete ls
complete_byte b [] = refl
complete_byte b ([] ∷ []) = refl
complete_byte b ((f ∷ fs) ∷ []) = refl
complete_byte b ([] ∷ m ∷ ls) = refl
complete_byte b ((f ∷ fs) ∷ m ∷ ls) = refl

complete_begun : (k : Kind) (b : ℕ) (ls : List Line) → feed k ≡ false → complete (begun k b ls) ≡ complete ls
complete_begun LineFeed b ls h = cc
complete_begun Comma b [] h = refl
complete_begun Comma b (l ∷ []) h = refl
complete_begun Comma b (l ∷ m ∷ ls) h = refl
complete_begun (Digit d) b ls h = complete_byte b ls
complete_begun Other b ls h = complete_byte b ls

complete_fed : (k : Kind) (b : ℕ) (bs : List ℕ) → feed k ≡ true → complete (begun k b (lines bs)) ≡ true
complete_fed LineFeed b bs h = let l = lines_begun bs in rw l.is refl
complete_fed Comma b bs h = cc
complete_fed (Digit d) b bs h = cc
complete_fed Other b bs h = cc

-- a line has its line feed where any byte is one
pub complete_any : (bs : List ℕ) → complete (lines bs) ≡ list_any (λ b. feed (kind b)) bs
complete_any [] = refl
complete_any (b ∷ bs) =
    ⊎_elim
    (λ e. complete_fed (kind b) b bs e ∙ sym (or_left _ _ e))
    (λ e. complete_begun (kind b) b (lines bs) e ∙ (complete_any bs ∙ ap (λ t. t || list_any (λ b. feed (kind b)) bs) (sym e)))
    (cases_Bool (feed (kind b)))

in_unfed : (k : Kind) → ends k ≡ false → feed k ≡ false
in_unfed Comma h = refl
in_unfed LineFeed h = h
in_unfed (Digit d) h = refl
in_unfed Other h = refl

no_feed : (bs : List ℕ) → ((k : ℕ) → k < length bs → ends (kind (get_or bs k 0)) ≡ false) → complete (lines bs) ≡ false
no_feed [] h = refl
no_feed (b ∷ bs) h =
    complete_begun (kind b) b (lines bs) (in_unfed (kind b) (h 0 (omega arith))) ∙ no_feed bs (λ k lt. h (suc k) (omega arith))

with_byte_field : (b : ℕ) (f : List ℕ) (ls : List Line) → with_byte b (with_field f ls) ≡ with_field (b ∷ f) ls
with_byte_field b f [] = refl
with_byte_field b f (l ∷ ls) = refl

begun_in : (k : Kind) (b : ℕ) (ls : List Line) → ends k ≡ false → begun k b ls ≡ with_byte b ls
begun_in Comma b ls h = cc
begun_in LineFeed b ls h = cc
begun_in (Digit d) b ls h = refl
begun_in Other b ls h = refl

-- the lines behind the byte that ends a field; fed: it is a line feed, and ends the line too
abbrev pub behind : Bool → List Line → List Line
behind fed ls = cond fed ([] ∷ ls) ls

begun_end : (k : Kind) (b : ℕ) (ls : List Line) → ends k ≡ true → begun k b ls ≡ with_field [] (behind (feed k) ls)
begun_end Comma b ls h = refl
begun_end LineFeed b ls h = refl
begun_end (Digit d) b ls h = cc
begun_end Other b ls h = cc

-- the first n bytes are inside a field, and the next ends it
pub record Cut (bs : List ℕ) (n : ℕ) : Type 0 where
  pub within : n < length bs
  pub inside : (k : ℕ) → k < n → ends (kind (get_or bs k 0)) ≡ false
  pub end : ends (kind (get_or bs n 0)) ≡ true

-- how many bytes stand before the first that ends a field
abbrev pub first_end : List ℕ → ℕ
first_end bs = position_or_len (λ b. ends (kind b)) bs

-- in a line that has its line feed, something ends the field
pub first_cut : (bs : List ℕ) → complete (lines bs) ≡ true → Cut bs (first_end bs)
first_cut bs whole =
    let inside = λ (k : ℕ) (lt : k < first_end bs). fails_before_first (λ b. ends (kind b)) bs k 0 lt in
    let within : first_end bs < length bs =
    ⊎_elim (λ h. h) (λ h. absurd (both_ways (complete (lines bs)) (no_feed bs (λ k lt. inside k (omega arith))) whole)) (cases_lt (first_end bs) (length bs)) in
    record { within = within; inside = inside; end = passes_at_first (λ b. ends (kind b)) bs 0 within }

pub first_end_is : (bs : List ℕ) → complete (lines bs) ≡ true → position (λ b. ends (kind b)) bs ≡ Some (first_end bs)
first_end_is bs whole = cond-true _ _ _ (lt-ltb _ _ (first_cut bs whole).within)

field_is : (bs : List ℕ) (n : ℕ) → Cut bs n → lines bs ≡ with_field (take n bs) (behind (feed (kind (get_or bs n 0))) (lines (drop (suc n) bs)))
field_is [] n cut = absurd (omega arith)
field_is (b ∷ bs) zero cut = begun_end (kind b) b (lines bs) cut.end
field_is (b ∷ bs) (suc n) cut =
    let rest : Cut bs n = record { within = omega (arith, cut.within); inside = λ k lt. cut.inside (suc k) (omega arith); end = cut.end } in
    begun_in (kind b) b (lines bs) (cut.inside 0 (omega arith)) ∙ ap (with_byte b) (field_is bs n rest) ∙ with_byte_field b (take n bs) _

-- a text is its first field and what follows the byte that ends it
pub field_text : (bs : List ℕ) (n : ℕ) → Cut bs n → lines bs ≡ with_field (take n bs) (behind (feed (kind (get_or bs n 0))) (lines (drop (n + 1) bs)))
field_text bs n cut = rw add-one (field_is bs n cut)

pub complete_field : (f : List ℕ) (ls : List Line) → complete (with_field f ls) ≡ complete ls
complete_field f [] = refl
complete_field f (l ∷ []) = refl
complete_field f (l ∷ m ∷ ls) = refl

-- where the field does not end the line, the line feed is still to come
pub complete_behind : (bs : List ℕ) (n : ℕ) → Cut bs n → complete (lines bs) ≡ true → feed (kind (get_or bs n 0)) ≡ false → complete (lines (drop (n + 1) bs)) ≡ true
complete_behind bs n cut whole on =
    ap (λ t. complete (behind t (lines (drop (n + 1) bs)))) (sym on) ∙ (sym (complete_field (take n bs) (behind (feed (kind (get_or bs n 0))) (lines (drop (n + 1) bs)))) ∙ (ap complete (sym (field_text bs n cut)) ∙ whole))
