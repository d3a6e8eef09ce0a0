-- What the edits of a fork ask of a sound volume.
use Rattle.std.proofs.Common.{◌≡◌, ℕ, ◌*◌, ◌<◌, ◌≤◌, ◌^◌, Bool, true, length, refl, sym, subst, arith, Some}
use Rattle.std.proofs.lemmas.Nat.{mul-le}
use Rattle.std.specs.Prelude.{IsTrue, List}
use Rattle.hfs_fields.specs.declared.extent.Extent.{Extent}
use Rattle.hfs_fields.specs.declared.file_record.FileRecord.{FileRecord}
use Rattle.hfs_fields.specs.Names.{is_item_name}
use Rattle.hfs_fields.specs.Records.{is_file, file_record_of}
use Rattle.hfs_blocks.specs.declared.run.Run.{Run}
use Rattle.hfs_blocks.specs.Blocks.{nodes_in}
use Rattle.hfs_fields.proofs.MemberLemmas.{each_in}
use Rattle.hfs_btree.specs.Header.{header_in}
use Rattle.hfs_btree.specs.Tree.{Store}
use Rattle.hfs_space.proofs.OwnedOnce.{distinct-once}
use Rattle.hfs_space.specs.declared.fork_kind.ForkKind.{ForkKind}
use Rattle.hfs_fields.specs.declared.file_record.ForkRecord.{ForkRecord}
use Rattle.hfs_space.specs.Extents.{AreExtentsWithin, extent_blocks, block_total, fork_byte, fork_extents}
use Rattle.hfs_space.specs.Owners.{owners}
use Rattle.hfs_space.specs.Sound.{IsTreeFile}
use Rattle.hfs_space.specs.TreeKeys.{IsExtentsTree, overflow_of, extents_through}
use Rattle.hfs_space.proofs.FileLengthLemmas.{length-tree_nodes}
use Rattle.hfs_space.proofs.ForkLengthLemmas.{byte_total}
use Rattle.hfs_space.proofs.TreeFileLemmas.{nodes_in-tree_blocks}
use Rattle.hfs_model.specs.declared.call.Fork.{Fork}
use Rattle.hfs_catalog.specs.Records.{Record, item_with}
use Rattle.hfs_check.specs.Parts.{Blocks, mdb_in, extents_nodes, extents_blocks, overflow_in, catalog_extents, catalog_in, owned_in}
use Rattle.hfs_check.specs.Sound.{AreBlocksSound}
use Rattle.hfs_check.proofs.LawTypes.{CatalogIsSound}
use Rattle.hfs_check.proofs.LawsProved.{trees_are_sound}
use Rattle.hfs_record_edits.proofs.Space.{owners_sum}
use Rattle.hfs_call_patches.specs.TreeFiles.{IsExtentsFile}
use Rattle.hfs_call_patches.proofs.FileDeleted.{blocks_counted}
use Rattle.hfs_record_edits.specs.Growing.{HasRoomFor}
use Rattle.hfs_call_patches.specs.Files.{kind_of, fork_of}
use Rattle.hfs_call_patches.specs.Edits.{extents_of, blocks_of}
use Rattle.hfs_call_patches.proofs.Rooms.{room_left, within_each}
use Rattle.hfs_space.proofs.OwnedLemmas.{length-blocks}
use Rattle.hfs_call_patches.proofs.SoundForks as sounds

-- ---- how many bytes there are

-- so many allocation blocks have no more than a volume of at most 2,147,483,648
pub area_bytes : (total : ℕ) (old : Blocks) → AreBlocksSound total old → total ≤ 4194304 → (n : ℕ) → n ≤ (mdb_in old).allocation_blocks → n * (mdb_in old).allocation_block_size ≤ 2147483648
area_bytes total old h most n few =
    let all = (mdb_in old).allocation_blocks in
    let size = (mdb_in old).allocation_block_size in
    let area = h.mdb.area in
    let bytes = byte_total (mdb_in old) all h.mdb.whole_size in
    let less = mul-le n size all size few (omega arith) in
    omega (arith, most, area, bytes, less)

-- whoever has a block of a tree's file owns it
tree_owned : (old : Blocks) (b : ℕ) → owners (extent_blocks (mdb_in old).extents_file) b ≤ owners (owned_in old) b
unfolding owned_in catalog_extents
tree_owned old b = let sums = owners_sum (mdb_in old) (overflow_in old) b (catalog_in old) in omega (arith, sums)

catalog_owned : (old : Blocks) (b : ℕ) → owners (extent_blocks (catalog_extents old)) b ≤ owners (owned_in old) b
unfolding owned_in catalog_extents
catalog_owned old b = let sums = owners_sum (mdb_in old) (overflow_in old) b (catalog_in old) in omega (arith, sums)

module _ (total : ℕ) (old : Blocks) (h : AreBlocksSound total old) (most : total ≤ 4194304) where
  -- the file of a tree, which owns its blocks, has no more bytes than a volume of at most 2,147,483,648
  file_small : (es : List Extent) (len : ℕ) → IsTreeFile (mdb_in old) es len → ((b : ℕ) → owners (extent_blocks es) b ≤ owners (owned_in old) b) → len < 2 ^ 32
  file_small es len file owned =
      let n = (mdb_in old).allocation_blocks in
      let size = (mdb_in old).allocation_block_size in
      let once : (b : ℕ) → owners (extent_blocks es) b ≤ 1 = λ b. (let own = owned b in let one = distinct-once (owned_in old) h.space.once b in omega (arith, own, one)) in
      let every : ℕ → Bool = λ b. true in
      let left = room_left every n (extent_blocks es) once (λ b some. within_each n b es file.within some) (λ b some. refl) in
      let few : block_total es ≤ n = (let same = length-blocks es in omega (arith, left, same)) in
      let room = file.room in
      let less = mul-le (block_total es) size n size few (omega arith) in
      let bytes = area_bytes total old h most n (omega arith) in
      omega (arith, room, less, bytes)

  pub size_small : (mdb_in old).extents_file_size < 2 ^ 32
  size_small = file_small (mdb_in old).extents_file (mdb_in old).extents_file_size h.extents.file (tree_owned old)

  pub catalog_size_small : (mdb_in old).catalog_file_size < 2 ^ 32
  catalog_size_small = file_small (catalog_extents old) (mdb_in old).catalog_file_size h.catalog.file (catalog_owned old)

-- ---- the extents tree

pub tree_is : (total : ℕ) (old : Blocks) → AreBlocksSound total old → IsExtentsTree (extents_nodes old)
tree_is total old h = (trees_are_sound total old h).0

-- they lie in these runs
pub nodes_are : (total : ℕ) (old : Blocks) (runs : List Run) → IsExtentsFile runs total old → nodes_in old runs ≡ extents_nodes old
unfolding extents_nodes extents_blocks
nodes_are total old runs file = nodes_in-tree_blocks old (mdb_in old) (mdb_in old).extents_file (mdb_in old).extents_file_size runs file.numbers

-- what is found by them is all that the fork has
pub found_are : (old : Blocks) (fork : Fork) (f : FileRecord) (nodes : Store) → nodes ≡ extents_nodes old → (kind : ForkKind) → kind ≡ kind_of fork → (x : ForkRecord) → x ≡ fork_of fork f → extents_through nodes f.id kind x.extents ≡ extents_of old fork f
unfolding overflow_in
found_are old fork f nodes same kind k x e = λ i. fork_extents (overflow_of (same i)) f.id (fork_byte (k i)) (e i).extents

module _ (total : ℕ) (old : Blocks) (h : AreBlocksSound total old) where
  -- its nodes lie in its file
  pub nodes_there : (header_in (extents_nodes old)).nodes ≤ length (extents_nodes old)
  unfolding extents_nodes
  nodes_there =
      let bytes = length-tree_nodes old (mdb_in old) (mdb_in old).extents_file (mdb_in old).extents_file_size h.mdb.whole_size h.extents.file in
      let within = h.extents.shape.within in
      omega (arith, bytes, within)

  -- whose bytes are counted by a number of 32 bits
  pub nodes_small : (mdb_in old).extents_file_size < 2 ^ 32 → 512 * (header_in (extents_nodes old)).nodes < 2 ^ 32
  unfolding extents_nodes
  nodes_small small = let within = h.extents.shape.within in omega (arith, small, within)

-- ---- the fork of a file

module _ (catalogs : CatalogIsSound) (total id : ℕ) (fork : Fork) (r : Record) (old : Blocks) (h : AreBlocksSound total old) (was : item_with (catalog_in old) id ≡ Some r) (is : is_file r.1 ≡ true) where
  abbrev f : FileRecord
  f = file_record_of r.1

  pub named : IsTrue (is_item_name r.0.name)
  named =
      let own = sounds.own catalogs total id fork r old h was is in
      each_in _ (catalog_in old) r h.names.records.items own.0 own.1

  pub own_within : AreExtentsWithin (mdb_in old).allocation_blocks (extents_of old fork f)
  own_within = (sounds.own_sound catalogs total id fork r old h was is).within

  -- with the pieces that come it has no more blocks than a key can count
  pub room_for : (wanted : ℕ) (pieces : List Extent) → length (extent_blocks pieces) ≡ wanted → wanted ≤ (mdb_in old).free_blocks → (mdb_in old).allocation_blocks ≤ 65535 → HasRoomFor (extents_of old fork f) pieces
  room_for wanted pieces enough free most =
      let few = sounds.own_few catalogs total id fork r old h was is in
      let had = blocks_counted (extents_of old fork f) in
      let come = blocks_counted pieces in
      omega (arith, enough, free, most, few, had, come)

  pub have_few : (mdb_in old).allocation_blocks ≤ 65535 → block_total (extents_of old fork f) < 65536
  have_few most =
      let few = sounds.own_few catalogs total id fork r old h was is in
      let had = blocks_counted (extents_of old fork f) in
      omega (arith, most, few, had)

  -- its blocks have room for its bytes
  pub own_room : (fork_of fork f).length ≤ length (blocks_of old fork f) * (mdb_in old).allocation_block_size
  own_room =
      subst (λ (k : ℕ). (fork_of fork f).length ≤ k * (mdb_in old).allocation_block_size) (sym (length-blocks (extents_of old fork f))) (sounds.own_sound catalogs total id fork r old h was is).room
