-- Laws of columns: equal or not, among others or not, and no more than five apart. Assumes nothing.
use Rattle.std.proofs.Common.{◌≡◌, ℕ, ◌+◌, ◌<◌, ◌≤◌, true, false, cond, ◌||◌, eqb, List, [], ◌∷◌, ◌++◌, length, sym, refl, ap, ◌∙◌, ⊎_elim, arith}
use Rattle.std.proofs.lemmas.List.{length_push}
use Rattle.std.proofs.lemmas.Bool.{eqb-true, ne_eqb, eq-eqb, cases_Bool, or_parts, and_parts, and_from}
use Rattle.indices.specs.declared.names.Column.{Column}
use Rattle.indices.specs.declared.names.Column.TheVariants.{Id, Cap, Rate, Part, Prate}
use Rattle.indices.specs.Names.{index, same, among, all}

-- two columns are the same exactly if they are equal
at_index : ℕ → Column
at_index n = cond (eqb n 0) Id (cond (eqb n 1) Cap (cond (eqb n 2) Rate (cond (eqb n 3) Part Prate)))

at_index_of : (c : Column) → at_index (index c) ≡ c
unfolding at_index
at_index_of Id = refl
at_index_of Cap = refl
at_index_of Rate = refl
at_index_of Part = refl
at_index_of Prate = refl

pub equal_from_same : (c d : Column) → same c d ≡ true → c ≡ d
equal_from_same c d h = sym (at_index_of c) ∙ ap at_index (eqb-true (index c) (index d) h) ∙ at_index_of d

pub same_from_equal : (c d : Column) → c ≡ d → same c d ≡ true
same_from_equal c d e = eq-eqb (index c) (index d) (ap index e)

pub same_not : (c d : Column) → (c ≡ d → ⊥) → same c d ≡ false
same_not c d h =
    ne_eqb (index c) (index d) (λ e. h (equal_from_same c d (eq-eqb (index c) (index d) e)))

-- how many of the columns have an index
abbrev count : ℕ → List Column → ℕ
count i [] = 0
count i (d ∷ ds) = cond (eqb (index d) i) 1 0 + count i ds

-- each column stands at most once
abbrev pub Once : List Column → Type 0
Once cs = (i : ℕ) → count i cs ≤ 1

counts : (cs : List Column) → length cs ≡ count 0 cs + (count 1 cs + (count 2 cs + (count 3 cs + count 4 cs)))
counts [] = refl
counts (Id ∷ cs) = omega (arith, counts cs)
counts (Cap ∷ cs) = omega (arith, counts cs)
counts (Rate ∷ cs) = omega (arith, counts cs)
counts (Part ∷ cs) = omega (arith, counts cs)
counts (Prate ∷ cs) = omega (arith, counts cs)

count_none : (c : Column) (cs : List Column) → among c cs ≡ false → count (index c) cs ≡ 0
count_none c [] h = refl
count_none c (d ∷ ds) h = let p = or_parts (same d c) (among c ds) h in rw p.0 (omega (arith, count_none c ds p.1))

count_some : (c : Column) (cs : List Column) → among c cs ≡ true → 1 ≤ count (index c) cs
count_some c [] h = cc
count_some c (d ∷ ds) h =
    ⊎_elim (λ e. rw e (omega arith)) (λ e. omega (arith, count_some c ds (ap (λ t. t || among c ds) (sym e) ∙ h))) (cases_Bool (same d c))

count_push : (i : ℕ) (d : Column) (cs : List Column) → count i (cs ++ (d ∷ [])) ≡ count i cs + cond (eqb (index d) i) 1 0
count_push i d [] = omega arith
count_push i d (e ∷ cs) = omega (arith, count_push i d cs)

pub once_push : (cs : List Column) (c : Column) → Once cs → among c cs ≡ false → Once (cs ++ (c ∷ []))
once_push cs c once new i =
    rw (count_push i c cs)
    (⊎_elim
    (λ e. rw e (omega (arith, count_none c cs new, ap (λ j. count j cs) (eqb-true (index c) i e))))
    (λ e. rw e (omega (arith, once i)))
    (cases_Bool (eqb (index c) i)))

pub five_at_most : (cs : List Column) → Once cs → length cs ≤ 5
five_at_most cs once = omega (arith, counts cs, once 0, once 1, once 2, once 3, once 4)

-- so there is room for one that does not stand there yet
pub room : (cs : List Column) (c : Column) → Once cs → among c cs ≡ false → length cs < 5
room cs c once new = omega (arith, five_at_most (cs ++ (c ∷ [])) (once_push cs c once new), length_push cs c)

module _ (cs : List Column) (once : Once cs) where
  seen : (c : Column) → length cs ≡ 5 → among c cs ≡ true
  seen c five = ⊎_elim (λ h. h) (λ new. absurd (omega (arith, room cs c once new))) (cases_Bool (among c cs))

  pub all_five : length cs ≡ 5 → all cs ≡ true
  all_five five =
      and_from _ _ (seen Id five) (and_from _ _ (seen Cap five) (and_from _ _ (seen Rate five) (and_from _ _ (seen Part five) (seen Prate five))))

  pub not_all : length cs < 5 → all cs ≡ false
  not_all few =
      ⊎_elim
      (λ h.
      let a = and_parts (among Id cs) _ h in
      let b = and_parts (among Cap cs) _ a.1 in
      let d = and_parts (among Rate cs) _ b.1 in
      let e = and_parts (among Part cs) (among Prate cs) d.1 in
      absurd
      (omega (arith, counts cs, count_some Id cs a.0, count_some Cap cs b.0, count_some Rate cs d.0, count_some Part cs e.0, count_some Prate cs e.1)))
      (λ h. h)
      (cases_Bool (all cs))
