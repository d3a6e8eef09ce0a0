-- The numbers of the blocks that are kept as changed.
use Rattle.std.proofs.Common.{◌≡◌, ℕ, ◌+◌, ◌<◌, ◌≤◌, ◌⊎◌, Bool, true, false, List, length, Option, Some, None, is_some, unwrap_or, nat_eq, ◌||◌, refl, sym, ap, ◌∙◌, subst, arith, zero, suc, true≢false, ⊎_elim, rules}
use Rattle.std.specs.List.{list_any, range_with_len, IsDistinct}
use Rattle.std.proofs.lemmas.Cmp.{nat_eq_equiv}
use Rattle.std.proofs.lemmas.Bool.{cases_eq}
use Rattle.std.proofs.lemmas.List.FromFn.{length-range_with_len}
use Rattle.std.proofs.lemmas.Map.Made.{is_some-lookup, length-le_from_is_member}
use Rattle.hfs_blocks.specs.Blocks.{block_at}
use Rattle.hfs_blocks.specs.Layers.{Numbered, Changes, changes, numbers, over}
use Rattle.hfs_space.specs.Changed.{HasBlocksOf}
use Rattle.hfs_space.proofs.AllBlocks.{has-numbers}

-- what was joined is kept
pub kept : (old new : Numbered) (other : Changes) → HasBlocksOf (changes old) other (changes new)
    → (n : ℕ) → list_any (nat_eq n) (numbers new) ≡ list_any (nat_eq n) (numbers old) || is_some (other n)
kept old new other joined n = has-numbers new n ∙ joined n ∙ ap (λ b. b || is_some (other n)) (sym (has-numbers old n))

none_is : (o : Option (List ℕ)) (b : List ℕ) → is_some o ≡ false → unwrap_or o b ≡ b
none_is None b h = refl
none_is (Some x) b h = absurd (true≢false h)

-- what isn't kept as changed is what lies below
pub beside : (es : Numbered) (base current : List ℕ) → over (changes es) (block_at base) ≡ block_at current
    → (n : ℕ) → list_any (nat_eq n) (numbers es) ≡ false → block_at current n ≡ block_at base n
beside es base current seen n other =
    sym (ap (λ f. f n) seen) ∙ none_is (changes es n) (block_at base n) (sym (has-numbers es n) ∙ other)
