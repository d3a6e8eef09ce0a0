-- Lines of a text, at its end.
use Rattle.std.proofs.Common.{◌≡◌, ℕ, List, [], ◌∷◌, length, refl, arith}
use Rattle.hfs_put_sources.specs.Lines.{lines}

pub lines-none : (text : List ℕ) → length text ≡ 0 → lines text ≡ []
unfolding lines
lines-none [] none = refl
lines-none (c ∷ rest) none = absurd (omega (arith, none))
