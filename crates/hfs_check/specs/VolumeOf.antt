-- The model volume that an image holds.
use Rattle.std.specs.Prelude.{ℕ, List}
use Rattle.hfs_fields.specs.Records.{is_bit_set}
use Rattle.hfs_fields.specs.declared.file_record.ForkRecord.{ForkRecord}
use Rattle.hfs_blocks.specs.Blocks.{block_at}
use Rattle.hfs_model.specs.Volume.{Volume}
use Rattle.hfs_space.specs.Extents.{fork_extents, fork_byte}
use Rattle.hfs_space.specs.Forks.{fork_bytes}
use Rattle.hfs_space.specs.declared.fork_kind.ForkKind.{ForkKind}
use Rattle.hfs_space.specs.declared.fork_kind.ForkKind.TheVariants.{Data, Resource}
use Rattle.hfs_catalog.specs.Items.{Contents, items_in}
use Rattle.hfs_check.specs.Parts.{Blocks, mdb_in, overflow_in, catalog_in}

-- the bytes of a file's fork, in all its extents
unfoldable pub bytes_in : Blocks → ℕ → ForkKind → ForkRecord → List ℕ
bytes_in blocks file kind fork =
    fork_bytes blocks (mdb_in blocks) (fork_extents (overflow_in blocks) file (fork_byte kind) fork.extents) fork.length

-- of both forks of a file
unfoldable pub contents_in : Blocks → Contents
contents_in blocks file = (bytes_in blocks file.id Data file.«data», bytes_in blocks file.id Resource file.resource)

-- the catalog's items; bit 7 of the attributes is the lock of the drive, and bit 15 that of the volume
unfoldable pub volume_in : Blocks → Volume
volume_in blocks = record {
  items = items_in (contents_in blocks) (catalog_in blocks);
  next_id = (mdb_in blocks).next_id;
  changed = (mdb_in blocks).modified;
  hardware_locked = is_bit_set 7 (mdb_in blocks).attributes.0;
  software_locked = is_bit_set 15 (mdb_in blocks).attributes.0;
  block_size = (mdb_in blocks).allocation_block_size;
}

unfoldable pub volume_of : List ℕ → Volume
volume_of image = volume_in (block_at image)
