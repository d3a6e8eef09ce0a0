-- Images that were opened to be changed.
use Rattle.std.specs.Prelude.{⊤, ℕ, List, Option, None, Some}
use Rattle.hfs_source.specs.Looks.{HasTold}
use Rattle.hfs_source.specs.declared.looks.TrustedLooks.{TrustedLooks}
use Rattle.hfs_commands.specs.OpenedFiles.{stored_bytes, stored_images}
use Rattle.hfs_commands.specs.declared.opened_file.StoredFile.{StoredFile}
use Rattle.hfs_commands.specs.declared.opened_file.StoredFile.TheVariants.{Seekable, Whole}
use Rattle.hfs_commands.specs.declared.watched_image.WatchedImage.{WatchedImage}

-- its bytes, where all were read
abbrev pub watched_bytes : {F : Type 0} → WatchedImage F → Option (List ℕ)
watched_bytes image = stored_bytes image.file

-- the images that have the bytes which were read: of what is held as a whole there is one
abbrev pub watched_images : {F : Type 0} → WatchedImage F → List ℕ → Type 0
watched_images image = stored_images image.file

-- what is held as a whole doesn't change; of a file this isn't known
abbrev pub IsUnchanging : {F : Type 0} → StoredFile F → Type 0
IsUnchanging (Seekable file) = ⊥
IsUnchanging (Whole bytes) = ⊤

-- the last thing that was done with the file is a look, which told what the first look did; without looks all bytes are held
abbrev pub IsSeenSame : {F : Type 0} → Option (TrustedLooks F (StoredFile F)) → StoredFile F → Type 0
IsSeenSame None file = IsUnchanging file
IsSeenSame (Some looks) file = HasTold looks.last file looks.first

-- the same of an image
abbrev pub IsWatchedSettled : {F : Type 0} → WatchedImage F → Type 0
IsWatchedSettled image = IsSeenSame image.looks image.file
