-- What those who read next to the writer take from a mounted volume.
use Rattle.std.specs.Prelude.{◌≡◌, ℕ, IsTrue, List, length, take, Some}
use Rattle.std.proofs.Common.{Vec, Global}
use Rattle.hfs_fields.specs.declared.extent.Extent.{Extent}
use Rattle.hfs_fields.specs.declared.file_record.FileRecord.{FileRecord}
use Rattle.hfs_fields.specs.Records.{is_file, file_record_of}
use Rattle.hfs_blocks.specs.Blocks.{block_at}
use Rattle.hfs_fields.specs.Each.{Each}
use Rattle.hfs_btree.specs.Sound.{IsOther}
use Rattle.hfs_space.specs.ForkLaws.{block_numbers}
use Rattle.hfs_model.specs.declared.call.Fork.{Fork}
use Rattle.hfs_model.specs.declared.item.File.{File}
use Rattle.hfs_model.specs.declared.item.Item.{Item}
use Rattle.hfs_model.specs.declared.item.Kind.TheVariants as kind
use Rattle.hfs_model.specs.Lawful.{Has}
use Rattle.hfs_model.specs.Reading.{fork_of}
use Rattle.hfs_model.specs.Volume.{Volume}
use Rattle.hfs_space.specs.Extents as extents
use Rattle.hfs_space.specs.ForkLengths.{all_bytes}
use Rattle.hfs_space.specs.Forks.{read_from}
use Rattle.hfs_catalog.specs.Records.{Record, Catalog, item_with}
use Rattle.hfs_check.specs.Parts.{Blocks, mdb_in, overflow_in, catalog_in}
use Rattle.hfs_check.specs.VolumeOf.{volume_of}
use Rattle.hfs_volume.specs.Image.{ImageValue}
use Rattle.hfs_volume.specs.Mounted.{fork_record}

-- all extents of one of a file's forks
unfoldable pub file_extents : Blocks → Fork → FileRecord → List Extent
file_extents blocks fork file =
    extents.fork_extents (overflow_in blocks) file.id (extents.fork_byte (fork_record fork file).0) (fork_record fork file).1.extents

-- none of these extents' blocks was written
abbrev pub AreUnwritten : List ℕ → Blocks → List Extent → Type 0
AreUnwritten written blocks es = Each (λ n. Each (IsOther n) written) (block_numbers (mdb_in blocks) es)

-- the record of the file of that ID
abbrev pub IsFileOf : Catalog → ℕ → Record → Type 0
IsFileOf catalog id r = (item_with catalog id ≡ Some r) × IsTrue (is_file r.1)

-- the item of that ID is this file
abbrev pub HasFile : Volume → ℕ → File → Type 0
HasFile v id file = (i : Item) × Has v.items id i × (i.kind ≡ kind.File file)

-- it is the ID of a file
abbrev pub IsFileId : Volume → ℕ → Type 0
IsFileId v id = (file : File) × HasFile v id file

-- they are all extents of a fork of the file of that ID
abbrev pub AreExtentsOf : Blocks → ℕ → Fork → List Extent → Type 0
AreExtentsOf blocks id fork es = (r : Record) → IsFileOf (catalog_in blocks) id r → es ≡ file_extents blocks fork (file_record_of r.1)

-- the bytes of these extents' blocks in an image, one extent after the other
abbrev pub bytes_of_extents : List ℕ → List Extent → List ℕ
bytes_of_extents image es = all_bytes (block_at image) (mdb_in (block_at image)) es

-- those from an offset on: so many of them, or as many as there are
abbrev pub part_of_extents : List ℕ → List Extent → ℕ → ℕ → List ℕ
part_of_extents image es offset count = read_from (bytes_of_extents image es) offset count

-- their bytes in a base begin with those of a fork of the file of that ID
abbrev pub HaveFork : List ℕ → Volume → ℕ → Fork → List Extent → Type 0
HaveFork base v id fork es = (file : File) → HasFile v id file → fork_of fork file ≡ take (length (fork_of fork file)) (bytes_of_extents base es)

-- these extents lie in the volume of an image
abbrev pub AreExtentsIn : List ℕ → List Extent → Type 0
AreExtentsIn image es = extents.AreExtentsWithin (mdb_in (block_at image)).allocation_blocks es

-- they are all extents of a fork of the image's file of that ID
abbrev pub AreForkExtents : List ℕ → ℕ → Fork → Vec Extent Global → Type 0
AreForkExtents image id fork es = AreExtentsOf (block_at image) id fork es.items

-- their bytes in the base begin with those of a fork of the image's file of that ID, where no call wrote a block of them
abbrev pub BeginWithFork : ImageValue → ℕ → Fork → Vec Extent Global → Type 0
BeginWithFork image id fork es = AreUnwritten image.written (block_at image.current) es.items → HaveFork image.base (volume_of image.current) id fork es.items
