-- What SetEof and WriteFork make of a volume, of a file that was looked for already.
use Rattle.std.specs.Prelude.{◌≡◌, ℕ, ◌+◌, ◌≤◌, max, ℤ, false, IsTrue, List, [], length, None, Result, Ok, Err, IfOk}
use Rattle.hfs_fields.specs.declared.file_record.FileRecord.{FileRecord}
use Rattle.hfs_fields.specs.declared.mdb.Mdb.{Mdb}
use Rattle.hfs_fields.specs.Counts.{with_counts}
use Rattle.hfs_fields.specs.Keys.{cat_cmp}
use Rattle.hfs_fields.specs.RecordForms.{IsFileRecordValue, file_record_bytes}
use Rattle.hfs_blocks.specs.declared.run.Run.{Run}
use Rattle.hfs_blocks.specs.Layers.{changes, AreWithin}
use Rattle.hfs_model.specs.declared.call.Fork.{Fork}
use Rattle.hfs_model.specs.declared.journal.Want.{Want}
use Rattle.hfs_model.specs.Changes.{Outcome, refused}
use Rattle.hfs_model.specs.Volume.{Entry}
use Rattle.hfs_model.specs.Replies.{success, is_accepted}
use Rattle.hfs_model.specs.declared.reply.Value.TheVariants as value
use Rattle.hfs_fields.specs.Each.{Each}
use Rattle.hfs_fields.specs.Members.{In}
use Rattle.hfs_btree_edits.specs.Edits.{with_replaced}
use Rattle.hfs_space.specs.ForkLaws.{block_numbers}
use Rattle.hfs_check.specs.Parts.{Blocks, mdb_in, catalog_in}
use Rattle.hfs_check.specs.Sound.{AreBlocksSound}
use Rattle.hfs_check.specs.VolumeOf.{volume_in}
use Rattle.hfs_model.specs.ForkCalls.{file_to_write, set_eof, write_fork}
use Rattle.hfs_call_patches.specs.Files.{fork_of}
use Rattle.hfs_call_patches.specs.Edits.{extents_of}
use Rattle.hfs_call_patches.specs.Laws.{HasBecome}
use Rattle.hfs_call_patches.specs.CallEdits.{SetsFork, HasLaid}
use Rattle.hfs_call_patches.specs.CallChanges.{written_blocks, changed, AreZerosAmong}
use Rattle.hfs_call_patches.specs.declared.change.Change.{Change}
use Rattle.hfs_call_patches.specs.TreeFiles.{IsCatalogFile, IsExtentsFile}
use Rattle.hfs_call_patches.specs.Found.{IsFoundFile, FindsFile}
use Rattle.hfs_call_patches.specs.Wanting.{MeetsWant, IsWanting}
use Rattle.hfs_call_patches.specs.declared.choosing.FoundFile.{FoundFile}
use Rattle.hfs_call_patches.specs.declared.volume.ForkRefusal.{ForkRefusal}
use Rattle.hfs_call_patches.specs.declared.volume.ForkRefusal.TheVariants as refusal

-- ---- the volume

-- it is sound, with at most 2,147,483,648 bytes; this is its master directory block, and in these runs lie the nodes of its trees
pub record IsForkVolume (total : ℕ) (blocks : Blocks) (mdb : Mdb) (extents catalog : List Run) : Type 0 where
  pub sound : AreBlocksSound total blocks
  pub few : total ≤ 4194304
  pub directory : mdb ≡ mdb_in blocks
  pub extents_file : IsExtentsFile extents total blocks
  pub catalog_file : IsCatalogFile catalog total blocks

-- the same of the blocks that a value shows
abbrev pub IsForkVolumeIn : {B : Type 0} → (B → ℕ) → (B → Blocks) → B → Mdb → List Run → List Run → Type 0
IsForkVolumeIn total blocks b mdb extents catalog = IsForkVolume (total b) (blocks b) mdb extents catalog

-- ---- the change

-- The change makes the volume of the call's outcome, sound, and has changed nothing besides the blocks that it wrote but what every call
-- may. The file's record is `file` then. The blocks that it wrote are the fork's, and no byte of a block that was added is one of before: each of
-- the fork's bytes is a given one, a zero, or stays.
pub record IsForkChangeOf (made : Outcome) (fork : Fork) (f : FoundFile) (len offset : ℕ) (part : List ℕ) (total : ℕ) (old : Blocks) (c : Change) : Type 0 where
  pub within : AreWithin (changes c.patch) total
  pub zeros : AreZerosAmong c.written total
  pub become : HasBecome (written_blocks c.written) made.0 total old (changed old c)
  pub directory : mdb_in (changed old c) ≡ with_counts c.counts (mdb_in old)
  pub reply : made.1 ≡ success c.value
  pub file : FileRecord
  pub value : IsFileRecordValue file
  pub stands : catalog_in (changed old c) ≡ with_replaced cat_cmp f.key (file_record_bytes file) (catalog_in old)
  pub own : Each (λ n. In n (block_numbers (mdb_in old) (extents_of (changed old c) fork file))) (written_blocks c.written)
  pub laid : HasLaid fork f.file file len offset part old (changed old c)

-- the file with this key and this record is one of the volume's, and is at this place
pub record IsFoundIn (old : Blocks) (f : FoundFile) : Type 0 where
  pub chosen : Result Entry ℤ
  pub is : IsFoundFile old chosen f

-- where a file was found, it is
abbrev pub AreFoundIn : Blocks → Result FoundFile ℤ → Type 0
AreFoundIn old found = IfOk found (IsFoundIn old)

-- The zeros that a fork gets, which had this record, begin where it ended, or where the given bytes end, if that is after it. These lie within its
-- new length.
pub record HasPlaces (fork : Fork) (was : FileRecord) (len from offset given : ℕ) : Type 0 where
  pub behind : (fork_of fork was).length ≤ from
  pub begins : from ≤ max (fork_of fork was).length (offset + given)
  pub within : offset + given ≤ len

-- nothing is wanting, and the change makes the edits of the law, wherever a call chooses the file
pub record HasResized (f : FoundFile) (fork : Fork) (len offset : ℕ) (part : List ℕ) (now total : ℕ) (old : Blocks) (c : Change) : Type 0 where
  pub enough : MeetsWant fork f.file len old None
  pub within : AreWithin (changes c.patch) total
  pub zeros : AreZerosAmong c.written total
  pub directory : mdb_in (changed old c) ≡ with_counts c.counts (mdb_in old)
  pub nothing : c.value ≡ value.Nothing
  pub sets : (chosen : Result Entry ℤ) (is : IsFoundFile old chosen f) → SetsFork fork is.choice.of len now offset part (written_blocks c.written) old (changed old c)

-- the same of what is made of these blocks
abbrev pub IsShrunk : FoundFile → Fork → ℕ → ℕ → List ℕ → ℕ → ℕ → Blocks → Change → Type 0
IsShrunk f fork len offset part now total old c = HasResized f fork len offset part now total old c

-- or what is wanting
abbrev pub IsResized : FoundFile → Fork → ℕ → ℕ → List ℕ → ℕ → ℕ → Blocks → Result Change Want → Type 0
IsResized f fork len offset part now total old (Ok c) = HasResized f fork len offset part now total old c
IsResized f fork len offset part now total old (Err want) = IsWanting fork f.file len old want

-- ---- the outcome of a call

-- the change of a file that was found, with nothing lacking; or the want, of a call that would be done otherwise; or a code that
-- refuses it
abbrev pub IsForkEdit : Outcome → Result FoundFile ℤ → Fork → (FoundFile → ℕ) → ℕ → List ℕ → ℕ → Blocks → Result Change ForkRefusal → Type 0
IsForkEdit made found fork len offset part total old (Ok c) =
    (f : FoundFile) × (found ≡ Ok f) × MeetsWant fork f.file (len f) old None × IsForkChangeOf made fork f (len f) offset part total old c
IsForkEdit made found fork len offset part total old (Err (refusal.Want want)) =
    (f : FoundFile) × (found ≡ Ok f) × IsWanting fork f.file (len f) old want × IsTrue (is_accepted made.1)
IsForkEdit made found fork len offset part total old (Err (refusal.Code code)) = (made ≡ refused (volume_in old) code) × (is_accepted made.1 ≡ false)

-- SetEof, in whichever folder and under whichever name the file was found, or refused
abbrev pub IsSetEofEdit : Result FoundFile ℤ → Fork → ℕ → ℕ → ℕ → Blocks → Result Change ForkRefusal → Type 0
IsSetEofEdit found fork length now total old result =
    (dir : ℕ) (name : List ℕ) → FindsFile old (file_to_write (volume_in old) dir name) found
    → IsForkEdit (set_eof (mdb_in old).allocation_block_size (volume_in old) dir name fork length now) found fork (λ f. length) 0 [] total old result

-- WriteFork
abbrev pub IsWriteForkEdit : Result FoundFile ℤ → Fork → ℕ → List ℕ → ℕ → ℕ → Blocks → Result Change ForkRefusal → Type 0
IsWriteForkEdit found fork offset bytes now total old result =
    (dir : ℕ) (name : List ℕ) → FindsFile old (file_to_write (volume_in old) dir name) found
    → IsForkEdit (write_fork (mdb_in old).allocation_block_size (volume_in old) dir name fork offset bytes now) found fork (λ f. max (fork_of fork f.file).length (offset + length bytes)) offset bytes total old result

-- where the result is Ok, the fact holds of these blocks and of what was made
abbrev pub Gives : {R E B : Type 0} → Result R E → (ℕ → Blocks → R → Type 0) → (B → ℕ) → (B → Blocks) → B → Type 0
Gives result Fact total blocks b = IfOk result (Fact (total b) (blocks b))
