-- What is read of an image's head, and what is printed of it.
use Rattle.std.specs.Prelude.{◌≡◌, ℕ, ◌+◌, List, length, take, drop, Option, ◌<◌, ◌≤◌, Result, IfOk, OnErr}
use Rattle.std.proofs.Common.{Vec, Global}
use Rattle.std.specs.Io.KnownBytes.{Consumes, IsAtEnd}
use Rattle.hfs_fields.specs.Numbers.{number_at}
use Rattle.hfs_fields.specs.Mdb.{mdb_of}
use Rattle.hfs_texts.specs.Info.{info_lines}

-- the fields' bytes: the first 162 of the image's block 2
abbrev pub field_bytes : List ℕ → List ℕ
field_bytes image = take 162 (drop 1024 image)

-- the volume's signature is HFS's
unfoldable pub HasSignature : List ℕ → Type 0
HasSignature image = number_at 0 2 (field_bytes image) ≡ 0x4244

-- the lines that are printed of an image
unfoldable pub info_text : List ℕ → List ℕ
info_text image = info_lines (mdb_of (field_bytes image))

-- a reader, by its known bytes before and after, gave its first 1,536 bytes
pub record GaveHead (old new : Option (List ℕ)) (head : List ℕ) : Type 0 where
  pub len : length head ≡ 1536
  pub consumed : Consumes old new head

-- a reader, by its known bytes before and after, gave some bytes, fewer than so many
abbrev pub GaveFewer : Option (List ℕ) → Option (List ℕ) → ℕ → Type 0
GaveFewer old new most = (bytes : List ℕ) × (length bytes < most) × Consumes old new bytes

-- it gave so many bytes
abbrev pub GaveSo : Option (List ℕ) → Option (List ℕ) → ℕ → Type 0
GaveSo old new count = (bytes : List ℕ) × (length bytes ≡ count) × Consumes old new bytes

-- it gave some bytes, at most so many
abbrev pub GaveAtMost : Option (List ℕ) → Option (List ℕ) → ℕ → Type 0
GaveAtMost old new most = (bytes : List ℕ) × (length bytes ≤ most) × Consumes old new bytes

-- it gave the bytes that it had left, fewer than so many
abbrev pub GaveLast : Option (List ℕ) → Option (List ℕ) → ℕ → Type 0
GaveLast old new most = (bytes : List ℕ) × (length bytes < most) × Consumes old new bytes × IsAtEnd new

-- it gave what a buffer begins with, as many bytes as are answered
abbrev pub HasFilled : {E : Type 0} → Option (List ℕ) → Option (List ℕ) → List ℕ → Result ℕ E → Type 0
HasFilled old new buffer result = IfOk result (λ count. Consumes old new (take count buffer))

-- it is at its end where so many bytes are fewer than a buffer holds
abbrev pub EndsIfShort : Option (List ℕ) → List ℕ → ℕ → Type 0
EndsIfShort new buffer count = count < length buffer → IsAtEnd new

-- it gave the bytes that are answered
abbrev pub HasLoaded : {E : Type 0} → Option (List ℕ) → Option (List ℕ) → Result (Vec ℕ Global) E → Type 0
HasLoaded old new result = IfOk result (λ bytes. Consumes old new bytes.items)

-- at an error it gave at most one byte more than the limit
abbrev pub StopsPast : {A E : Type 0} → Option (List ℕ) → Option (List ℕ) → ℕ → Result A E → Type 0
StopsPast old new limit result = OnErr result (GaveAtMost old new (limit + 1))
