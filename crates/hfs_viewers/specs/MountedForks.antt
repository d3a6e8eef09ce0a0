-- The forks of rows.
use Rattle.std.specs.Prelude.{◌≡◌, ℕ, List, []}
use Rattle.hfs_blocks.specs.Blocks.{block_at}
use Rattle.hfs_fields.specs.declared.key.CatKey.{CatKey}
use Rattle.hfs_fields.specs.declared.file_record.FileRecord.{FileRecord}
use Rattle.hfs_model.specs.declared.call.Fork.{Fork}
use Rattle.hfs_viewers.specs.declared.fork.ForkPieces.{ForkPieces}
use Rattle.hfs_viewers.specs.Pieces.{ArePieces, fork_shown}
use Rattle.hfs_check.specs.Parts.{mdb_in}
use Rattle.hfs_volume.specs.Image.{ImageValue}
use Rattle.hfs_volume.specs.declared.open_fork.Opened.TheVariants as opened
use Rattle.hfs_volume.specs.Opening.{opened_fork}
use Rattle.hfs_volume.specs.Serving.{entries_in, fork_in}
use Rattle.hfs_viewers.specs.declared.row.RowFork.{RowFork}
use Rattle.hfs_viewers.specs.Tables.{bytes_of}

-- the pieces are all of these bytes, over a base's fork that has none
pub record AreAllOf (bytes : List ℕ) (fork : ForkPieces) : Type 0 where
  pub pieces : ArePieces fork
  pub base_len : fork.base_len ≡ 0
  pub shows : fork_shown [] fork ≡ bytes

-- over the image's base, the row's fork has the bytes that the file's has in the image
abbrev pub ShowsFork : ImageValue → Fork → FileRecord → RowFork → Type 0
ShowsFork image fork file row = bytes_of image.base (mdb_in (block_at image.current)) row ≡ fork_in image.current fork file

-- each fork of the file with this record is opened by the folder and the name of its key
abbrev pub OpensForks : List ℕ → CatKey → FileRecord → Type 0
OpensForks image key file = (fork : Fork) → opened_fork (entries_in image) key.parent key.name fork ≡ opened.Fork (fork_in image fork file)
