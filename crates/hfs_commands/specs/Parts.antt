-- Parts of files: a file as it is, or a range that lies inside.
use Rattle.std.specs.Prelude.{◌≡◌, ◌≢◌, ◌⊎◌, ⊤, ℕ, List, Option, None, Some}
use Rattle.hfs_commands.specs.OpenedFiles.{IsLaidOut, IsWholeRange, held_bytes, images_of, opened_layout}
use Rattle.hfs_commands.specs.declared.opened_file.OpenedFile.{OpenedFile}
use Rattle.hfs_commands.specs.declared.volume_files.FilePart.{FilePart}
use Rattle.hfs_source.specs.Asking.{IsAnswerTo, asked_in}
use Rattle.hfs_source.specs.Images.{OfEach}
use Rattle.hfs_source.specs.declared.asking.Asked.{Asked}
use Rattle.hfs_source.specs.declared.asking.Asked.TheVariants.{Inside, WholeFile}
use Rattle.hfs_source.specs.declared.asking.Counted.{Counted}
use Rattle.hfs_source.specs.declared.asking.NumberedRange.{NumberedRange}
use Rattle.hfs_source.specs.declared.ranges.ByteRange.{ByteRange}
use Rattle.hfs_source.specs.declared.ranges.Layout.TheVariants as layout
use Rattle.hfs_source.specs.declared.window.Window.{Window}

-- what was asked for, where it is there
abbrev pub asked_at : Option NumberedRange → Asked
asked_at None = WholeFile
asked_at (Some place) = Inside place

-- the part of a range inside has its bytes
abbrev pub IsRangeAt : Option NumberedRange → ByteRange → Type 0
IsRangeAt None part = ⊤
IsRangeAt (Some place) part = part ≡ place.found.range

-- and where there is no place, all of these
abbrev pub IsWholeAt : (List ℕ → Type 0) → Option NumberedRange → ByteRange → Type 0
IsWholeAt Holds None part = IsWholeRange Holds part
IsWholeAt Holds (Some place) part = ⊤

-- the bytes are laid out as their file is, and a place in them is what is asked for
abbrev pub IsAskedIn : {F : Type 0} → Counted → Option ℕ → OpenedFile F → Option NumberedRange → Type 0
IsAskedIn counted volume file place = IsLaidOut file × OfEach (images_of file) (λ bytes. asked_at place ≡ asked_in (opened_layout file) counted volume bytes)

-- a file is taken as it is by the number 0, and without a number where all its bytes are held, since it can't be sought in
abbrev pub IsAskedWhole : Option ℕ → Option (List ℕ) → Type 0
IsAskedWhole None held = held ≢ None
IsAskedWhole (Some number) held = number ≡ 0

-- a part of a file is the file as it is
abbrev pub IsWholeFile : {F : Type 0} → FilePart F → Type 0
IsWholeFile part = (part.place ≡ None) × (opened_layout part.bytes.source ≡ layout.Plain)

-- a part of a file is what is asked for of it
abbrev pub IsAskedPart : {F : Type 0} → Counted → Option ℕ → FilePart F → Type 0
IsAskedPart counted volume part =
    (IsAskedWhole volume (held_bytes part.bytes.source) × IsWholeFile part)
    ⊎ ((volume ≢ Some 0) × IsAskedIn counted volume part.bytes.source part.place)

-- so are these bytes of a file: those of a range inside, or all
abbrev pub IsAskedWindow : {F : Type 0} → Counted → Option ℕ → Window (OpenedFile F) → Type 0
IsAskedWindow counted volume bytes =
    (place : Option NumberedRange) × IsAnswerTo volume (asked_at place) × IsAskedPart counted volume (record { bytes = bytes; place = place })
    × IsRangeAt place bytes.range × IsWholeAt (images_of bytes.source) place bytes.range
