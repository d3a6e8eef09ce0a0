-- Digests of images, piece by piece.
use Rattle.std.specs.Prelude.{◌≡◌, ⊤, ℕ, List, ◌++◌, take, drop, Option, None, Some, IfSome}
use Rattle.hfs_source.specs.declared.seen_blocks.SeenBlocks.{SeenBlocks}
use Rattle.sha2.specs.Sha256.{sha256}
use Rattle.hfs_image.specs.Known.{OfKnown}

-- where the image's bytes are known, so many of them from a place on came behind the message that is held
abbrev pub AddsPiece : Option (List ℕ) → ℕ → ℕ → (List ℕ → Type 0) → (List ℕ → Type 0) → Type 0
AddsPiece known place count Held Holds = IfSome known (λ image. (m : List ℕ) → Held m → Holds (m ++ take count (drop place image)))

-- where the image's bytes are known, and are so many, this is their digest
abbrev pub IsDigestOf : Option (List ℕ) → ℕ → List ℕ → Type 0
IsDigestOf known len digest = OfKnown known len (λ image. digest ≡ sha256 image)

-- the image has the bytes which were read of a source that is there beside it
abbrev pub HoldsBeside : {S : Type 0} → (S → List ℕ → Type 0) → Option (SeenBlocks S) → List ℕ → Type 0
HoldsBeside Holds None image = ⊤
HoldsBeside Holds (Some beside) image = Holds beside.blocks image
