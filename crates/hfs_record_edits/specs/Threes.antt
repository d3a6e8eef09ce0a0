-- Extents by threes, as the records of the extents tree have them.
use Rattle.std.specs.Prelude.{ℕ, ◌+◌, ◌*◌, ◌<◌, ◌≤◌, List, [], ◌∷◌, length, take, ⊤}
use Rattle.hfs_fields.specs.declared.extent.Extent.{Extent}
use Rattle.hfs_space.specs.Extents.{block_total}

-- there are three and three of them, and each three has a block
abbrev pub AreThrees : List Extent → Type 0
AreThrees [] = ⊤
AreThrees (a ∷ []) = ⊥
AreThrees (a ∷ b ∷ []) = ⊥
AreThrees (a ∷ b ∷ c ∷ es) = (0 < block_total (a ∷ b ∷ c ∷ [])) × AreThrees es

-- of the threes after the first, so many begin before the fork's block n, and no other one does
pub record AreLeft (n : ℕ) (extents : List Extent) (threes : ℕ) : Type 0 where
  pub within : 3 * threes + 3 ≤ length extents
  pub before : 0 < threes → block_total (take (3 * threes) extents) < n
  pub behind : 3 * threes + 3 < length extents → n ≤ block_total (take (3 * threes + 3) extents)
