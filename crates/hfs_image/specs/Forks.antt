-- The bytes of a file's fork, of an image of which only the needed blocks and the fork's own are read.
use Rattle.std.specs.Prelude.{◌≡◌, ℕ, ◌<◌, not, if◌then◌else◌, List, length, Result, Ok, Err, Option, IfSome, IfErr, OnOk, ⊤}
use Rattle.std.proofs.Common.{Vec, Global}
use Rattle.std.specs.Option.{option_map_or}
use Rattle.std.specs.Io.KnownBytes.{Appends}
use Rattle.hfs_fields.specs.Names.{is_item_name}
use Rattle.hfs_fields.specs.declared.file_record.FileRecord.{FileRecord}
use Rattle.hfs_fields.specs.declared.file_record.ForkRecord.{ForkRecord}
use Rattle.std.specs.List.{flat_map}
use Rattle.hfs_blocks.specs.declared.run.Run.{Run}
use Rattle.hfs_blocks.specs.Blocks.{block_at, run_of, AreRunsWithin}
use Rattle.hfs_blocks.specs.Layers.{Numbered}
use Rattle.hfs_fields.specs.Each.{Each}
use Rattle.hfs_model.specs.declared.call.Fork.{Fork}
use Rattle.hfs_model.specs.declared.call.Fork.TheVariants.{DataFork, ResFork}
use Rattle.hfs_model.specs.declared.codes.TheConstants.{BAD_NAME, NOT_FOUND, NOT_A_FOLDER}
use Rattle.hfs_model.specs.declared.item.Kind.{Kind}
use Rattle.hfs_model.specs.declared.item.Kind.TheVariants as kind
use Rattle.hfs_model.specs.declared.reply.Reply.{Reply}
use Rattle.hfs_model.specs.Children.{is_folder, child_named, entries_of}
use Rattle.hfs_model.specs.Reading.{fork_of}
use Rattle.hfs_model.specs.Replies.{refusal}
use Rattle.hfs_model.specs.Volume.{Entry}
use Rattle.hfs_space.specs.declared.fork_kind.ForkKind.{ForkKind}
use Rattle.hfs_space.specs.declared.fork_kind.ForkKind.TheVariants.{Data, Resource}
use Rattle.hfs_space.specs.Extents.{fork_extents, fork_byte}
use Rattle.hfs_space.specs.Forks.{fork_bytes}
use Rattle.hfs_space.specs.Owners.{forks_of_file}
use Rattle.hfs_space.specs.Sound.{IsForkSound}
use Rattle.hfs_check.specs.Parts.{Blocks, mdb_in, overflow_in}
use Rattle.hfs_source.specs.Sparse.{sparse}
use Rattle.hfs_space.specs.Runs.{fork_in}
use Rattle.hfs_space.specs.TreeFiles.{tree_blocks}
use Rattle.hfs_check.specs.VolumeOf.{volume_of}
use Rattle.hfs_image.specs.Known.{OfKnown}

-- ---- of the volume

-- the bytes of an item's fork; -43 of a folder
abbrev pub fork_of_kind : Fork → Kind → Result (List ℕ) Reply
fork_of_kind fork (kind.Folder kept) = Err (refusal NOT_FOUND)
fork_of_kind fork (kind.File file) = Ok (fork_of fork file)

-- the bytes of a fork of the folder's child of that name: -37, -120, -43
unfoldable pub named_fork : List Entry → ℕ → List ℕ → Fork → Result (List ℕ) Reply
named_fork es dir name fork =
    if not (is_item_name name) then Err (refusal BAD_NAME)
    else if not (is_folder es dir) then Err (refusal NOT_A_FOLDER)
    else option_map_or (λ (e : Entry). fork_of_kind fork e.1.kind) (child_named es dir name) (Err (refusal NOT_FOUND))

-- where the image's bytes are known, and are so many, this is the fork that its volume has under that name, or the reply
-- that refuses it
abbrev pub IsForkNamed : Option (List ℕ) → ℕ → ℕ → List ℕ → Fork → Result (List ℕ) Reply → Type 0
IsForkNamed known len dir name fork found = OfKnown known len (λ image. named_fork (entries_of (volume_of image)) dir name fork ≡ found)

-- ---- of the image

-- each of the first blocks of an image with these bytes has 512 bytes
abbrev pub HasWhole : ℕ → List ℕ → Type 0
HasWhole total image = (n : ℕ) → n < total → length (block_at image n) ≡ 512

-- where the image's bytes are known, and its first blocks are whole, this holds of them
abbrev pub OfWhole : Option (List ℕ) → ℕ → (List ℕ → Type 0) → Type 0
OfWhole known total Fact = IfSome known (λ image. HasWhole total image → Fact image)

-- the bytes of a fork in the blocks of an image, which are found by those that were read
abbrev pub bytes_by : Numbered → List ℕ → ℕ → ForkKind → ForkRecord → List ℕ
bytes_by read image file kind fork =
    fork_bytes (block_at image) (mdb_in (sparse read)) (fork_extents (overflow_in (sparse read)) file (fork_byte kind) fork.extents) fork.length

-- one of both forks of a file
abbrev pub fork_by : Numbered → List ℕ → FileRecord → Fork → List ℕ
fork_by read image file DataFork = bytes_by read image file.id Data file.«data»
fork_by read image file ResFork = bytes_by read image file.id Resource file.resource

-- the extents of a fork of a file lie in the volume, and have room for its bytes
abbrev pub IsForkIn : Blocks → ℕ → ForkKind → ForkRecord → Type 0
IsForkIn blocks file kind fork = IsForkSound (mdb_in blocks) (overflow_in blocks) (fork_in file kind fork)

-- the extents of both forks of a file lie in the volume, and have room for its bytes
abbrev pub AreForksIn : Blocks → FileRecord → Type 0
AreForksIn blocks file = Each (IsForkSound (mdb_in blocks) (overflow_in blocks)) (forks_of_file file)

-- the runs lie in a volume of so many blocks, and are those of the blocks that have the bytes of a fork, found by what was read
pub record AreForkRuns (read : Numbered) (count file : ℕ) (kind : ForkKind) (fork : ForkRecord) (runs : List Run) : Type 0 where
  pub within : AreRunsWithin runs count
  pub numbers : flat_map run_of runs
      ≡ tree_blocks (mdb_in (sparse read)) (fork_extents (overflow_in (sparse read)) file (fork_byte kind) fork.extents) fork.length

-- where the image's bytes are known, and are so many, this holds of the bytes of the fork that its volume has under that name
abbrev pub OfForkNamed : Option (List ℕ) → ℕ → ℕ → List ℕ → Fork → (List ℕ → Type 0) → Type 0
OfForkNamed known len dir name fork Fact =
    OfKnown known len (λ image. (bytes : List ℕ) × (named_fork (entries_of (volume_of image)) dir name fork ≡ Ok bytes) × Fact bytes)

-- the bytes are those of a fork of the image, where it is known and whole
abbrev pub HoldsFork : Option (List ℕ) → ℕ → Numbered → ℕ → ForkKind → ForkRecord → Vec ℕ Global → Type 0
HoldsFork known total read file kind fork = λ bytes. OfWhole known total (λ image. bytes.items ≡ bytes_by read image file kind fork)

-- the bytes are those of one of both forks of a file of the image, where it is known and whole
abbrev pub HoldsForkOf : Option (List ℕ) → ℕ → Numbered → FileRecord → Fork → Vec ℕ Global → Type 0
HoldsForkOf known total read file fork = λ bytes. OfWhole known total (λ image. bytes.items ≡ fork_by read image file fork)

-- ---- of the bytes that are written

-- where the image is known and whole, this holds of the bytes of a fork of it
abbrev pub OfFork : Option (List ℕ) → ℕ → Numbered → ℕ → ForkKind → ForkRecord → (List ℕ → Type 0) → Type 0
OfFork known total read file kind fork Fact = OfWhole known total (λ image. Fact (bytes_by read image file kind fork))

-- of one of both forks of a file of it
abbrev pub OfForkOf : Option (List ℕ) → ℕ → Numbered → FileRecord → Fork → (List ℕ → Type 0) → Type 0
OfForkOf known total read file fork Fact = OfWhole known total (λ image. Fact (fork_by read image file fork))

-- where no reply refuses it, the fork of that name was written
abbrev pub WritesForkNamed : Option (List ℕ) → ℕ → ℕ → List ℕ → Fork → Option (List ℕ) → Option (List ℕ) → Result ⊤ Reply → Type 0
WritesForkNamed known len dir name fork old new = λ found. OnOk found (OfForkNamed known len dir name fork (Appends old new))

-- and where one does, it refuses the fork
abbrev pub RefusesWriting : Option (List ℕ) → ℕ → ℕ → List ℕ → Fork → Result ⊤ Reply → Type 0
RefusesWriting known len dir name fork = λ found. IfErr found (λ reply. IsForkNamed known len dir name fork (Err reply))
