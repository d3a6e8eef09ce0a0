-- Blocks of an image that were read, with zeros in place of the others.
use Rattle.std.specs.Prelude.{◌≡◌, ◌≤◌, ◌++◌, ℕ, List, length, take, drop, Option, Some, IsSome, IfSome, replicate}
use Rattle.std.specs.List.{flat_map, range_with_len}
use Rattle.std.proofs.Common.{Vec, Global}
use Rattle.std.proofs.lemmas.List.{length-replicate}
use Rattle.hfs_fields.specs.Each.{Each}
use Rattle.hfs_blocks.specs.declared.run.Run.{Run}
use Rattle.hfs_blocks.specs.Blocks.{block_at, run_of}
use Rattle.hfs_blocks.specs.Layers.{Numbered, changes, over}

-- a block that was not read
unfoldable pub zero_block : List ℕ
zero_block = replicate 512 0

pub length-zero_block : length zero_block ≡ 512
unfolding zero_block
length-zero_block = length-replicate {A = ℕ} 512 0

-- the blocks of the image, where these were read
abbrev pub sparse : Numbered → ℕ → List ℕ
sparse read = over (changes read) (λ _. zero_block)

-- each of these blocks was read
abbrev pub HasEach : Numbered → List ℕ → Type 0
HasEach read numbers = Each (λ n. IsSome (changes read n)) numbers

-- so many blocks from a number on were read, at least one and at most as many as were needed
abbrev pub HasSome : Numbered → ℕ → ℕ → ℕ → Type 0
HasSome read first most count = (1 ≤ count) × (count ≤ most) × HasEach read (range_with_len first count)

-- what was read stays as it was read, and more may have been
abbrev pub HasGrown : Numbered → Numbered → Type 0
HasGrown old new = (n : ℕ) → IsSome (changes old n) → changes new n ≡ changes old n

-- what was read is of the image with these bytes
abbrev pub IsOf : List ℕ → Numbered → Type 0
IsOf bytes read = (n : ℕ) (block : List ℕ) → changes read n ≡ Some block → block ≡ block_at bytes n

-- where the image's bytes are known, what was read since is of it, too
abbrev pub StaysOf : Option (List ℕ) → Numbered → Numbered → Type 0
StaysOf known old new = IfSome known (λ bytes. IsOf bytes old → IsOf bytes new)

-- where the bytes are known, these are those that they have from a place on, as many as these are
abbrev pub HoldsFrom : Option (List ℕ) → ℕ → List ℕ → Type 0
HoldsFrom known place bytes = IfSome known (λ all. bytes ≡ take (length bytes) (drop place all))

-- where the image's bytes are known, these are the bytes of the runs' blocks
abbrev pub HoldsRuns : Option (List ℕ) → List Run → Vec ℕ Global → Type 0
HoldsRuns known runs = λ bytes. IfSome known (λ image. bytes.items ≡ flat_map (block_at image) (flat_map run_of runs))

-- where the image's bytes are known, after the old bytes those of `count` blocks from `first` on
abbrev pub AddsRange : Option (List ℕ) → ℕ → ℕ → Vec ℕ Global → Vec ℕ Global → Type 0
AddsRange known first count old new = IfSome known (λ image. new.items ≡ old.items ++ flat_map (block_at image) (range_with_len first count))
