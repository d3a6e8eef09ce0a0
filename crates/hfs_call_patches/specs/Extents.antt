-- The extents of a fork.
use Rattle.std.specs.Prelude.{◌≡◌, ℕ, List}
use Rattle.std.proofs.Common.{Vec, Global}
use Rattle.hfs_fields.specs.declared.extent.Extent.{Extent}
use Rattle.hfs_fields.specs.declared.file_record.FileRecord.{FileRecord}
use Rattle.hfs_model.specs.declared.call.Fork.{Fork}
use Rattle.hfs_call_patches.specs.Edits.{extents_of}

-- they are all that the fork of the file has in the volume
abbrev pub AreExtentsOf : (ℕ → List ℕ) → Fork → FileRecord → Vec Extent Global → Type 0
AreExtentsOf blocks fork file = λ extents. extents.items ≡ extents_of blocks fork file
