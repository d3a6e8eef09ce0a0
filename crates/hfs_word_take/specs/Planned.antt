-- How the digest of an image is made: at once, or beside the payload.
use Rattle.std.specs.Prelude.{◌≡◌, Bool, true, List, ℕ, Option, None, Some}
use Rattle.hfs_source.specs.declared.seen_blocks.SeenBlocks.{SeenBlocks}
use Rattle.hfs_word_take.specs.Bags.{digest_told}

-- what is to be told of it was made; or it is to be made of the source beside the image
abbrev pub IsPlanned : {S : Type 0} → Option (SeenBlocks S) → Bool → Option (List ℕ) → List ℕ → Type 0
IsPlanned None is_digested told image = told ≡ digest_told is_digested image
IsPlanned (Some beside) is_digested told image = is_digested ≡ true
