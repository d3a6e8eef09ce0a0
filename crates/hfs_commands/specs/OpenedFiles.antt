-- What is known of a file that was opened.
use Rattle.std.specs.Prelude.{◌≡◌, ⊤, ℕ, ◌+◌, ◌*◌, ◌/◌, ◌<◌, List, length, IfSome, Option, None, Some}
use Rattle.std.specs.Option.{option_map}
use Rattle.std.specs.Arc.{arc_value}
use Rattle.hfs_source.specs.Images.{HasLength, OfEach}
use Rattle.hfs_source.specs.Steps.{IsReadFrom}
use Rattle.hfs_source.specs.Reading.{FailsInData, IsDataOfOne}
use Rattle.hfs_source.specs.Sectors.{other_count, sector_count, user_data_of}
use Rattle.hfs_source.specs.declared.ranges.ByteRange.{ByteRange}
use Rattle.hfs_source.specs.declared.ranges.Layout.{Layout}
use Rattle.hfs_source.specs.declared.ranges.Layout.TheVariants as layout
use Rattle.hfs_source.specs.Ranges.{range_of}
use Rattle.hfs_source.specs.Raw.{layout_of}
use Rattle.hfs_commands.specs.declared.opened_file.OpenedFile.{OpenedFile}
use Rattle.hfs_commands.specs.declared.opened_file.OpenedFile.TheVariants.{Plain, Raw}
use Rattle.hfs_commands.specs.declared.opened_file.StoredFile.{StoredFile}
use Rattle.hfs_commands.specs.declared.opened_file.StoredFile.TheVariants.{Seekable, Whole}

-- the bytes of a file, where all are held
abbrev pub stored_bytes : {F : Type 0} → StoredFile F → Option (List ℕ)
stored_bytes (Seekable file) = None
stored_bytes (Whole bytes) = Some (arc_value bytes).items

-- the same of a file in which volumes are looked for
abbrev pub held_bytes : {F : Type 0} → OpenedFile F → Option (List ℕ)
held_bytes (Plain file) = stored_bytes file
held_bytes (Raw user) = stored_bytes user.bytes

-- the bytes in which volumes are looked for, where all of the file are held
abbrev pub held_content : {F : Type 0} → OpenedFile F → Option (List ℕ)
held_content (Plain file) = stored_bytes file
held_content (Raw user) = option_map user_data_of (stored_bytes user.bytes)

-- bytes that were held are held
abbrev pub StaysHeld : Option (List ℕ) → Option (List ℕ) → Type 0
StaysHeld old new = IfSome old (λ bytes. new ≡ Some bytes)

-- the files that have the bytes which were read: of what is held as a whole there is one
abbrev pub stored_images : {F : Type 0} → StoredFile F → List ℕ → Type 0
stored_images (Seekable file) image = IsReadFrom file.log.steps image
stored_images (Whole bytes) image = image ≡ (arc_value bytes).items

-- where a read of a file may fail, from a place on, of so many bytes: of what is held as a whole only past its end
abbrev pub stored_failures : {F : Type 0} → StoredFile F → ℕ → ℕ → Type 0
stored_failures (Seekable file) place count = ⊤
stored_failures (Whole bytes) place count = length (arc_value bytes).items < place + count

-- the bytes in which volumes are looked for, of each file that has the bytes which were read
abbrev pub images_of : {F : Type 0} → OpenedFile F → List ℕ → Type 0
images_of (Plain file) image = stored_images file image
images_of (Raw user) image = IsDataOfOne (stored_images user.bytes) image

-- the files themselves
abbrev pub files_of : {F : Type 0} → OpenedFile F → List ℕ → Type 0
files_of (Plain file) image = stored_images file image
files_of (Raw user) image = stored_images user.bytes image

-- where a read of these may fail
abbrev pub failures_of : {F : Type 0} → OpenedFile F → ℕ → ℕ → Type 0
failures_of (Plain file) place count = stored_failures file place count
failures_of (Raw user) place count = FailsInData (stored_failures user.bytes) user.sectors place count

-- what the file's bytes are
abbrev pub opened_layout : {F : Type 0} → OpenedFile F → Layout
opened_layout (Plain file) = layout.Plain
opened_layout (Raw user) = layout.Raw

-- these files are of raw sectors
abbrev pub AreRaw : (List ℕ → Type 0) → Type 0
AreRaw Holds = OfEach Holds (λ bytes. layout.Raw ≡ layout_of bytes)

-- or they aren't
abbrev pub ArePlain : (List ℕ → Type 0) → Type 0
ArePlain Holds = OfEach Holds (λ bytes. layout.Plain ≡ layout_of bytes)

-- each file that has the bytes which were read is laid out as it is told
abbrev pub IsLaidOut : {F : Type 0} → OpenedFile F → Type 0
IsLaidOut file = OfEach (files_of file) (λ bytes. opened_layout file ≡ layout_of bytes)

-- the range is all of each of these
abbrev pub IsWholeRange : (List ℕ → Type 0) → ByteRange → Type 0
IsWholeRange Holds range = (range.start ≡ 0) × OfEach Holds (HasLength range.len)

-- the user data is that of as many sectors as this file has
abbrev pub HasSectorsOf : {F : Type 0} → OpenedFile F → List ℕ → Type 0
HasSectorsOf (Plain file) bytes = ⊤
HasSectorsOf (Raw user) bytes = user.sectors ≡ sector_count bytes

-- so many of its raw sectors have no user data, of each file that has the bytes which were read; none where it has no such sectors
abbrev pub AreOthersOf : {F : Type 0} → OpenedFile F → ℕ → Type 0
AreOthersOf (Plain file) others = others ≡ 0
AreOthersOf (Raw user) others = OfEach (stored_images user.bytes) (λ file. others ≡ other_count file)

-- the same where all bytes of the file are held
abbrev pub AreHeldOthers : {F : Type 0} → OpenedFile F → ℕ → Type 0
AreHeldOthers (Plain file) others = others ≡ 0
AreHeldOthers (Raw user) others = IfSome (stored_bytes user.bytes) (λ file. others ≡ other_count file)

-- all user data of so many bytes of raw sectors
abbrev pub raw_range : ℕ → ByteRange
raw_range len = range_of 0 (len / 2352 * 2048)

-- the range in which volumes are looked for, by what the file's bytes are
abbrev pub range_by : Layout → ByteRange → ByteRange
range_by layout.Plain range = range
range_by layout.Raw range = raw_range range.len
