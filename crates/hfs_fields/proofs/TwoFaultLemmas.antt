-- One fault after the other: there is none exactly where neither is there.
use Rattle.std.proofs.Common.{◌≡◌, ℕ, refl, sym, ◌∙◌, ap, Option, Some, None}
use Rattle.std.specs.Option.{option_or}
use Rattle.std.proofs.lemmas.Option.{none-some}

pub neither : (first second : Option ℕ) → option_or first second ≡ None → (first ≡ None) × (second ≡ None)
neither None second e = (refl, e)
neither (Some i) second e = absurd (none-some i (sym e))

pub both_none : (first second : Option ℕ) → first ≡ None → second ≡ None → option_or first second ≡ None
both_none first second e f = ap (λ (o : Option ℕ). option_or o second) e ∙ f
