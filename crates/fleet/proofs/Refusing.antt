-- Rules of refusal, one after another. Assumes nothing.
use Rattle.std.proofs.Common.{◌≡◌, ℕ, Bool, true, false, Some, None, Option, sym, refl, ap, ◌∙◌}
use Rattle.std.proofs.lemmas.Option.{none-some}
use Rattle.fleet.specs.Refusals.{first, refused_if, unless}
use Rattle.fleet.specs.declared.refusal.Refusal.{Refusal}

pub accepted : (case : Bool) (refusal : Refusal) → refused_if case refusal ≡ None → case ≡ false
accepted true refusal h = absurd (none-some _ (sym h))
accepted false refusal h = refl

pub both_accepted : (a b : Option ℕ) → first a b ≡ None → (a ≡ None) × (b ≡ None)
both_accepted None b h = (refl, h)
both_accepted (Some n) b h = absurd (none-some _ (sym h))

pub neither_refuses : (a b : Option ℕ) → a ≡ None → b ≡ None → first a b ≡ None
neither_refuses a b p q = ap (λ o. first o b) p ∙ q

pub unless_accepted : {A : Type 0} (refusal : Option ℕ) (before after : A) → refusal ≡ None → unless refusal before after ≡ after
unless_accepted refusal before after h = ap (λ o. unless o before after) h
