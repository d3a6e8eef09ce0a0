-- The file that a call looks for, and what SetEof and WriteFork choose of what was found.
use Rattle.std.specs.Prelude.{◌≡◌, ℕ, ◌+◌, ◌<◌, ◌≤◌, ℤ, ◌||◌, nat_lt, if◌then◌else◌, List, length, Result, Ok, Err}
use Rattle.std.specs.Result.{MatchResult}
use Rattle.hfs_btree_edits.specs.Entries.{IsPlaceOf}
use Rattle.hfs_catalog.specs.Tree.{cat_keys}
use Rattle.hfs_model.specs.declared.call.Fork.{Fork}
use Rattle.hfs_model.specs.declared.codes.TheConstants.{END_OF_FILE, PARAMETER}
use Rattle.hfs_model.specs.Choices.{and_then}
use Rattle.hfs_model.specs.Volume.{Entry}
use Rattle.hfs_check.specs.Parts.{Blocks, catalog_nodes}
use Rattle.hfs_check.specs.Sound.{AreBlocksSound}
use Rattle.hfs_check.specs.VolumeOf.{volume_in}
use Rattle.hfs_model.specs.ForkCalls.{file_to_write, to_set_eof, to_write_fork}
use Rattle.hfs_call_patches.specs.Files.{fork_of}
use Rattle.hfs_call_patches.specs.Settings.{IsFileChoice}
use Rattle.hfs_call_patches.specs.declared.choosing.FoundFile.{FoundFile}

-- ---- the file

-- a call chooses the file with this key and this record, which is at this place of the catalog
pub record IsFoundFile (old : Blocks) (chosen : Result Entry ℤ) (f : FoundFile) : Type 0 where
  pub choice : IsFileChoice old chosen f.key f.file
  pub place : IsPlaceOf cat_keys (catalog_nodes old) f.key f.place

-- the file that a call chooses, or the code that refuses it
abbrev pub FindsFile : Blocks → Result Entry ℤ → Result FoundFile ℤ → Type 0
FindsFile old chosen result = MatchResult result (λ f. IsFoundFile old chosen f) (λ code. chosen ≡ Err code)

-- ---- what is chosen of what was found

-- -50 above 2,147,483,647 bytes
abbrev pub if_short : ℕ → Result FoundFile ℤ → Result FoundFile ℤ
if_short length found = if nat_lt 2147483647 length then Err PARAMETER else found

-- -39 where the fork's record has fewer bytes
abbrev pub unless_past : Fork → ℕ → FoundFile → Result FoundFile ℤ
unless_past fork offset f = if nat_lt (fork_of fork f.file).length offset then Err END_OF_FILE else Ok f

-- -50 of too many bytes, and where they would end too far on; then -39
abbrev pub if_writable : Fork → ℕ → List ℕ → Result FoundFile ℤ → Result FoundFile ℤ
if_writable fork offset bytes found =
    if nat_lt 65536 (length bytes) || nat_lt 2147483647 (offset + length bytes) then Err PARAMETER
    else and_then found (unless_past fork offset)

-- ---- the calls

-- SetEof chooses this in each volume in which the file was found, or refused, under whichever name
abbrev pub ChoosesSetEof : Result FoundFile ℤ → ℕ → Result FoundFile ℤ → Type 0
ChoosesSetEof found length result =
    (old : Blocks) (dir : ℕ) (name : List ℕ) → FindsFile old (file_to_write (volume_in old) dir name) found
    → FindsFile old (to_set_eof (volume_in old) dir name length) result

-- the blocks are those of a sound volume, of 512 bytes each
pub record AreWholeSound (total : ℕ) (old : Blocks) : Type 0 where
  pub sound : AreBlocksSound total old
  pub whole : (n : ℕ) → n < total → length (old n) ≡ 512

-- WriteFork chooses this in each sound volume
abbrev pub ChoosesWriteFork : Result FoundFile ℤ → Fork → ℕ → List ℕ → Result FoundFile ℤ → Type 0
ChoosesWriteFork found fork offset bytes result =
    (total : ℕ) (old : Blocks) (dir : ℕ) (name : List ℕ) → AreWholeSound total old → FindsFile old (file_to_write (volume_in old) dir name) found
    → FindsFile old (to_write_fork (volume_in old) dir name fork offset bytes) result

-- the file was found, its fork goes as far as the offset, and the bytes from there on end at 2,147,483,647 or before
pub record IsWritable (found : Result FoundFile ℤ) (fork : Fork) (offset : ℕ) (bytes : List ℕ) (f : FoundFile) : Type 0 where
  pub is : found ≡ Ok f
  pub starts : offset ≤ (fork_of fork f.file).length
  pub ends : offset + length bytes ≤ 2147483647
