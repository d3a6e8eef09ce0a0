-- What is written of the bytes of blocks.
use Rattle.std.specs.Prelude.{◌≡◌, ℕ, ◌*◌, List, length, take, Option, IfSome}
use Rattle.std.specs.List.{flat_map}
use Rattle.std.specs.Io.KnownBytes.{Appends}
use Rattle.hfs_texts.specs.Writing.{AppendsFront}
use Rattle.hfs_blocks.specs.declared.run.Run.{Run}
use Rattle.hfs_blocks.specs.Blocks.{block_at, run_of}

-- the bytes of these blocks of an image
abbrev pub blocks_of : List ℕ → List ℕ → List ℕ
blocks_of image numbers = flat_map (block_at image) numbers

-- where the image's bytes are known, these blocks are whole, and so many of their bytes were written, or all
abbrev pub WritesBlocks : Option (List ℕ) → Option (List ℕ) → Option (List ℕ) → List ℕ → ℕ → Type 0
WritesBlocks known old new numbers left =
    IfSome known (λ image. (length (blocks_of image numbers) ≡ 512 * length numbers) × Appends old new (take left (blocks_of image numbers)))

-- where the image's bytes are known, some of so many of the bytes of these blocks were written, from the first on
abbrev pub WritesSome : Option (List ℕ) → Option (List ℕ) → Option (List ℕ) → List ℕ → ℕ → Type 0
WritesSome known old new numbers left = IfSome known (λ image. AppendsFront old new (take left (blocks_of image numbers)))

-- where the image's bytes are known, so many of the bytes of the runs' blocks were written
abbrev pub WritesRuns : Option (List ℕ) → Option (List ℕ) → Option (List ℕ) → List Run → ℕ → Type 0
WritesRuns known old new runs left = IfSome known (λ image. Appends old new (take left (blocks_of image (flat_map run_of runs))))

-- where the image's bytes are known, some of so many of them were written, from the first on
abbrev pub WritesSomeRuns : Option (List ℕ) → Option (List ℕ) → Option (List ℕ) → List Run → ℕ → Type 0
WritesSomeRuns known old new runs left = WritesSome known old new (flat_map run_of runs) left
