-- What those who read beside the writer take from a mounted volume.
use Rattle.std.specs.Prelude.{◌≡◌, ℕ, IsTrue, List}
use Rattle.hfs_fields.specs.declared.file_record.FileRecord.{FileRecord}
use Rattle.hfs_fields.specs.Records.{is_file, file_record_of}
use Rattle.hfs_blocks.specs.Blocks.{block_at}
use Rattle.hfs_fields.specs.Each.{Each}
use Rattle.hfs_check.specs.Agree.{AgreesBut}
use Rattle.hfs_check.specs.Parts.{mdb_in, catalog_in}
use Rattle.hfs_model.specs.declared.call.Fork.{Fork}
use Rattle.hfs_space.specs.Forks.{fork_bytes}
use Rattle.hfs_volume.specs.Mounted.{fork_record}
use Rattle.hfs_volume.specs.Sharing.{file_extents, AreUnwritten}

-- the bytes of a file's fork of which no block was written are the same in two images, where the second says where they lie
abbrev pub ForksStay : List ℕ → List ℕ → List ℕ → FileRecord → Type 0
ForksStay written base image file =
    (fork : Fork)
    → AreUnwritten written (block_at image) (file_extents (block_at image) fork file)
    → fork_bytes (block_at base) (mdb_in (block_at image)) (file_extents (block_at image) fork file) (fork_record fork file).1.length
    ≡ fork_bytes (block_at image) (mdb_in (block_at image)) (file_extents (block_at image) fork file) (fork_record fork file).1.length

-- in an image that agrees with a base but for blocks that calls wrote, the forks of each file that have none of these have the base's bytes
abbrev pub FileForksStay : Type 0
FileForksStay =
    (written base image : List ℕ) → AgreesBut written base image → Each (λ r. IsTrue (is_file r.1) → ForksStay written base image (file_record_of r.1)) (catalog_in (block_at image))
