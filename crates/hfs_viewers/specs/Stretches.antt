-- Neighbouring bytes of a fork from one source.
use Rattle.std.specs.Prelude.{⊤, ◌≡◌, ℕ, ◌+◌, ◌≤◌, ◌<◌, ◌^◌, List, length, take, drop, replicate}
use Rattle.hfs_viewers.specs.declared.piece.Source.{Source}
use Rattle.hfs_viewers.specs.declared.piece.Source.TheVariants.{Base, Zeros, Given}
use Rattle.hfs_viewers.specs.declared.fork.ForkPieces.{ForkPieces}
use Rattle.hfs_viewers.specs.declared.reading.Stretch.{Stretch}
use Rattle.hfs_viewers.specs.declared.reading.Stretch.TheVariants as stretch
use Rattle.hfs_viewers.specs.Pieces.{source_bytes, skipped, fork_length, fork_shown}

-- how many bytes there are
abbrev pub stretch_length : Stretch → ℕ
stretch_length (stretch.Base from count) = count
stretch_length (stretch.Zeros count) = count
stretch_length (stretch.Given bytes) = length bytes.now

-- the bytes, over those of the base's fork
abbrev pub stretch_bytes : List ℕ → Stretch → List ℕ
stretch_bytes base (stretch.Base from count) = take count (drop from base)
stretch_bytes base (stretch.Zeros count) = replicate count 0
stretch_bytes base (stretch.Given bytes) = bytes.now

-- those of the base's fork are among the bytes that it has
abbrev pub IsInBase : ℕ → Stretch → Type 0
IsInBase base_len (stretch.Base from count) = from + count ≤ base_len
IsInBase base_len (stretch.Zeros count) = ⊤
IsInBase base_len (stretch.Given bytes) = ⊤

-- at least one byte of the fork from the place on, and at most so many
pub record IsStretch (fork : ForkPieces) (place most : ℕ) (s : Stretch) : Type 0 where
  pub some : 0 < stretch_length s
  pub few : stretch_length s ≤ most
  pub within : place + stretch_length s ≤ fork_length fork
  pub in_base : IsInBase fork.base_len s
  pub shows : (base : List ℕ) → length base ≡ fork.base_len → stretch_bytes base s ≡ take (stretch_length s) (drop place (fork_shown base fork))

-- ---- of a source

-- the source has so many bytes after the first ones
abbrev pub MayRead : ℕ → ℕ → Source → Type 0
MayRead skip count (Base from) = from + skip + count < 2 ^ 32
MayRead skip count Zeros = ⊤
MayRead skip count (Given bytes from) = from + skip + count ≤ length bytes

-- what was in the base is read of the base
abbrev pub IsReadWhere : ℕ → ℕ → ℕ → Source → Stretch → Type 0
IsReadWhere base_len skip count (Base from) s = from + skip + count ≤ base_len → IsInBase base_len s
IsReadWhere base_len skip count Zeros s = IsInBase base_len s
IsReadWhere base_len skip count (Given bytes from) s = IsInBase base_len s

-- so many bytes of the source after the first ones
pub record IsPart (skip count : ℕ) (source : Source) (s : Stretch) : Type 0 where
  pub length_is : stretch_length s ≡ count
  pub in_base : (base_len : ℕ) → IsReadWhere base_len skip count source s
  pub shows : (base : List ℕ) → stretch_bytes base s ≡ source_bytes base count (skipped skip source)
