-- Volumes that are written as files of their own: what is said of each image that has the bytes which were read.
use Rattle.std.specs.Prelude.{◌≡◌, ◌⊎◌, ℕ, Bool, false, List, ◌++◌, codes, length, take, drop, Option}
use Rattle.std.specs.Borrow.{Bor}
use Rattle.std.specs.Fmt.{decimal}
use Rattle.std.specs.Option.{is_some}
use Rattle.std.specs.Io.KnownBytes.{Appends}
use Rattle.hfs_source.specs.declared.ranges.ByteRange.{ByteRange}
use Rattle.hfs_source.specs.Ranges.{volume_name_in}
use Rattle.hfs_source.specs.Images.{OfEach}
use Rattle.hfs_texts.specs.Lines.{line}
use Rattle.hfs_texts.specs.Writing.{AppendsFront}
use Rattle.hfs_commands.specs.declared.fault.Fault.{Fault}
use Rattle.hfs_commands.specs.declared.fault.Fault.TheVariants.{CannotRead, NoMemory, NoVolumes}

-- so many bytes from a place on
abbrev pub bytes_from : ℕ → ℕ → List ℕ → List ℕ
bytes_from place count image = take count (drop place image)

-- what a writer had grew by so many of the image's bytes from a place on
abbrev pub WritesAt : (List ℕ → Type 0) → ℕ → ℕ → Option (List ℕ) → Option (List ℕ) → Type 0
WritesAt Holds place count old new = OfEach Holds (λ image. Appends old new (bytes_from place count image))

-- or by some of these, from the first on
abbrev pub WritesFrontAt : (List ℕ → Type 0) → ℕ → ℕ → Option (List ℕ) → Option (List ℕ) → Type 0
WritesFrontAt Holds place count old new = OfEach Holds (λ image. AppendsFront old new (bytes_from place count image))

-- what a writer had grew by all bytes of the image, where it has so many: each once, in their order
abbrev pub WritesAll : (List ℕ → Type 0) → ℕ → Option (List ℕ) → Option (List ℕ) → Type 0
WritesAll Holds len old new = OfEach Holds (λ image. length image ≡ len → Appends old new image)

-- or by some of them, from the first on
abbrev pub WritesFront : (List ℕ → Type 0) → ℕ → Option (List ℕ) → Option (List ℕ) → Type 0
WritesFront Holds len old new = OfEach Holds (λ image. length image ≡ len → AppendsFront old new image)

-- one of these images, which has so many bytes
abbrev pub IsSized : (List ℕ → Type 0) → ℕ → List ℕ → Type 0
IsSized Holds len image = Holds image × (length image ≡ len)

-- whether a range of a file holds a volume
abbrev pub holds_volume : ByteRange → List ℕ → Bool
holds_volume range file = is_some (volume_name_in range file)

-- nothing is written: there is no volume, in each file that has the bytes which were read; or they can't be read
abbrev pub IsNoVolume : (List ℕ → Type 0) → ByteRange → Bor (List ℕ) → Fault → Type 0
IsNoVolume Holds range path why = ((why ≡ NoVolumes) × OfEach Holds (λ file. false ≡ holds_volume range file)) ⊎ ((why ≡ CannotRead path) ⊎ (why ≡ NoMemory))

-- what is printed of a volume of so many bytes
unfoldable pub extracted_text : ℕ → List ℕ
extracted_text len = codes "extracted\n" ++ line (codes "bytes") (decimal len)
