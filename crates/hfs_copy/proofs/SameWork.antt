-- Volumes whose working blocks are the same.
use Rattle.std.proofs.Common.{◌≡◌, ℕ, ◌+◌, ◌*◌, ◌/◌, ◌%◌, ◌<◌, Bool, List, [], ◌∷◌, ◌++◌, take, length, refl, sym, ap, subst, ◌∙◌, arith}
use Rattle.std.specs.Prelude.{◌-◌, ◌==◌, ◌&&◌}
use Rattle.std.specs.List.{range_with_len}
use Rattle.std.proofs.lemmas.List.FromFn.{length-range_with_len, get_or-range_with_len}
use Rattle.hfs_model.specs.Alike.{AreAlike, no_file}
use Rattle.hfs_blocks.specs.Blocks.{nodes_in}
use Rattle.hfs_fields.specs.declared.file_record.FileRecord.{FileRecord}
use Rattle.hfs_fields.specs.declared.file_record.ForkRecord.{ForkRecord}
use Rattle.hfs_fields.specs.Records.{file_record_of, is_bit_set}
use Rattle.hfs_fields.specs.Each.{Each}
use Rattle.hfs_fields.proofs.ElementLemmas.{each-at, each-left, each-right}
use Rattle.hfs_btree_checks.specs.Shape.{has_counts}
use Rattle.hfs_space.specs.Bitmap.{bitmap_len, is_marked, is_used}
use Rattle.hfs_space.specs.declared.fork_kind.ForkKind.{ForkKind}
use Rattle.hfs_space.specs.declared.fork_kind.ForkKind.TheVariants.{Data, Resource}
use Rattle.hfs_space.specs.Extents.{fork_extents, fork_byte}
use Rattle.hfs_space.specs.Faults.{fork_fault, space_fault}
use Rattle.hfs_space.specs.ForkLaws.{block_numbers}
use Rattle.hfs_space.specs.Forks.{fork_bytes, joined}
use Rattle.hfs_space.specs.Owners.{owners, is_stray_block}
use Rattle.hfs_space.specs.TreeKeys.{ext_keys, overflow_of}
use Rattle.hfs_catalog.specs.Items.{items_in}
use Rattle.hfs_catalog.specs.Records.{Catalog}
use Rattle.hfs_catalog.specs.Tree.{cat_keys, catalog_of}
use Rattle.hfs_catalog.specs.Faults.{record_fault, id_fault, valence_fault, count_fault}
use Rattle.hfs_check.specs.Agree.{bitmap_blocks, node_blocks, changing_blocks, is_stray_in}
use Rattle.hfs_check.specs.Faults.{◌or_fault◌, check_fault, mdb_fault, extents_fault, catalog_fault, extents_counts, catalog_counts, trees_fault, catalog_name_fault, catalog_place_fault, records_fault, numbers_fault, blocks_fault}
use Rattle.hfs_check.specs.Parts.{Blocks, mdb_in, extents_blocks, extents_nodes, overflow_in, catalog_extents, catalog_blocks, catalog_nodes, catalog_in, owned_in, is_marked_in}
use Rattle.hfs_check.specs.Sound.{AreBlocksSound}
use Rattle.hfs_check.specs.VolumeOf.{bytes_in, contents_in, volume_in}
use Rattle.hfs_check.proofs.LawsProved.{no_blocks_fault}
use Rattle.hfs_image.specs.Laws.{volume_with, blocks_of_fork}
use Rattle.hfs_image.specs.Needed.{AgreeOn}
use Rattle.hfs_image.proofs.SameParts.{mdb-same, map-same, extents_blocks-same, catalog_extents-same, catalog_blocks-same, extents-map, catalog-map, owned-same}
use Rattle.hfs_image.proofs.SameSpace.{bit-same, space_fault-same}
use Rattle.hfs_items.proofs.Queries.{files_are_long}
use Rattle.hfs_copy.specs.Working.{working_blocks, SameForks, HasForksOf}
use Rattle.hfs_copy.proofs.AlikeVolumes.{FilesAreLong, FilesAreSame, none-same, volumes-alike}

module _ (total : ℕ) (old new : Blocks) (h : AgreeOn (working_blocks total old) old new) where
  abbrev Same : ℕ → Type 0
  Same n = new n ≡ old n

  all : AgreeOn (2 ∷ (total - 2) ∷ bitmap_blocks (mdb_in old) ++ (extents_blocks old ++ catalog_blocks old)) old new
  unfolding working_blocks
  all = h

  pub block_2 : new 2 ≡ old 2
  block_2 = all.0

  in-bitmap : AgreeOn (bitmap_blocks (mdb_in old)) old new
  in-bitmap = each-left Same (bitmap_blocks (mdb_in old)) (extents_blocks old ++ catalog_blocks old) all.1.1

  in-trees : AgreeOn (extents_blocks old ++ catalog_blocks old) old new
  in-trees = each-right Same (bitmap_blocks (mdb_in old)) (extents_blocks old ++ catalog_blocks old) all.1.1

  -- ---- what is read off them

  pub mdb-is : mdb_in new ≡ mdb_in old
  mdb-is = mdb-same old new block_2

  pub extents-is : extents_nodes new ≡ extents_nodes old
  extents-is =
      extents-map old new mdb-is ∙ map-same old new (extents_blocks old) (each-left Same (extents_blocks old) (catalog_blocks old) in-trees)
      ∙ sym (extents-map old old refl)

  overflow-is : overflow_in new ≡ overflow_in old
  unfolding overflow_in
  overflow-is = ap overflow_of extents-is

  pub file-is : catalog_extents new ≡ catalog_extents old
  file-is = catalog_extents-same old new mdb-is overflow-is

  pub catalog-is : catalog_nodes new ≡ catalog_nodes old
  catalog-is =
      catalog-map old new mdb-is file-is ∙ map-same old new (catalog_blocks old) (each-right Same (extents_blocks old) (catalog_blocks old) in-trees)
      ∙ sym (catalog-map old old refl refl)

  pub records-are : catalog_in new ≡ catalog_in old
  unfolding catalog_in
  records-are = ap catalog_of catalog-is

  owned-is : owned_in new ≡ owned_in old
  owned-is = owned-same old new mdb-is overflow-is records-are

  pub changing-is : changing_blocks new ≡ changing_blocks old
  unfolding changing_blocks
  changing-is = λ i.
      2 ∷ bitmap_blocks (mdb-is i) ++ node_blocks (mdb-is i) (mdb-is i).extents_file (extents-is i) ++ node_blocks (mdb-is i) (file-is i) (catalog-is i)

  pub working-is : working_blocks total new ≡ working_blocks total old
  unfolding working_blocks
  working-is = λ i.
      2 ∷ (total - 2) ∷ bitmap_blocks (mdb-is i) ++ (extents_blocks-same old new mdb-is i ++ catalog_blocks-same old new mdb-is file-is i)

  -- ---- the bitmap

  bitmap-block : (k : ℕ) → k < bitmap_len (mdb_in old).allocation_blocks → new ((mdb_in old).bitmap_start + k) ≡ old ((mdb_in old).bitmap_start + k)
  bitmap-block k lt =
      let start = (mdb_in old).bitmap_start in
      let len = bitmap_len (mdb_in old).allocation_blocks in
      subst Same (get_or-range_with_len start len k 0 lt)
      (each-at Same (range_with_len start len) k 0 in-bitmap (omega (arith, length-range_with_len start len, lt)))

  pub bit-is : (i : ℕ) → i < 4096 * bitmap_len (mdb_in old).allocation_blocks → is_marked_in new i ≡ is_marked_in old i
  unfolding is_marked_in
  bit-is i lt =
      (λ j. is_used new (mdb-is j).bitmap_start i)
      ∙ ap (λ (block : List ℕ). is_marked block (i % 4096)) (bitmap-block (i / 4096) (omega (arith, lt)))

  pub stray-is : (b : ℕ) → b < (mdb_in old).allocation_blocks → is_stray_in new b ≡ is_stray_in old b
  unfolding is_stray_block
  stray-is b lt =
      (λ i. (owners (owned-is i) b == 0) && is_used new (mdb-is i).bitmap_start b)
      ∙ ap (λ (used : Bool). (owners (owned_in old) b == 0) && used) (bit-same old new (mdb_in old) in-bitmap b lt)

  -- ---- the checks

  trees-is : trees_fault (extents_counts new) (catalog_counts new) new ≡ trees_fault (extents_counts old) (catalog_counts old) old
  unfolding trees_fault
  trees-is = λ i.
      check_fault 3 (extents_fault (has_counts ext_keys (extents-is i)) (mdb-is i) (extents-is i))
      or_fault check_fault 4 (catalog_fault (has_counts cat_keys (catalog-is i)) (mdb-is i) (file-is i) (catalog-is i))

  records-is : records_fault new ≡ records_fault old
  unfolding records_fault
  records-is = λ i.
      check_fault 5 (record_fault (records-are i)) or_fault check_fault 6 (id_fault (mdb-is i).next_id (records-are i))
      or_fault check_fault 7 (catalog_name_fault (catalog-is i) (records-are i)) or_fault check_fault 8 (catalog_place_fault (catalog-is i) (records-are i))

  space-is : space_fault new (mdb_in new) (owned_in new) ≡ space_fault old (mdb_in old) (owned_in old)
  space-is = (λ i. space_fault new (mdb-is i) (owned-is i)) ∙ space_fault-same old new (mdb_in old) in-bitmap (owned_in old)

  numbers-is : numbers_fault new ≡ numbers_fault old
  unfolding numbers_fault
  numbers-is = λ i.
      check_fault 9 (valence_fault (records-are i)) or_fault check_fault 10 (count_fault (mdb-is i) (records-are i))
      or_fault check_fault 11 (fork_fault (mdb-is i) (overflow-is i) (records-are i)) or_fault check_fault 12 (space-is i)

  fault-is : blocks_fault total new ≡ blocks_fault total old
  unfolding blocks_fault
  fault-is = λ i. mdb_fault total (mdb-is i) or_fault trees-is i or_fault records-is i or_fault numbers-is i

  pub sound-is : AreBlocksSound total old → AreBlocksSound total new
  sound-is sound = (no_blocks_fault total new).0 (fault-is ∙ (no_blocks_fault total old).1 sound)

  -- ---- the volume

  pub volume-is : volume_in new ≡ volume_with (contents_in new) old
  unfolding volume_in
  volume-is = λ i. record {
    items = items_in (contents_in new) (records-are i);
    next_id = (mdb-is i).next_id;
    changed = (mdb-is i).modified;
    hardware_locked = is_bit_set 7 (mdb-is i).attributes.0;
    software_locked = is_bit_set 15 (mdb-is i).attributes.0;
    block_size = (mdb-is i).allocation_block_size;
  }

  -- a fork whose blocks are the same
  bytes-is : (file : ℕ) (kind : ForkKind) (fork : ForkRecord) → AgreeOn (blocks_of_fork old file kind fork) old new
      → bytes_in new file kind fork ≡ bytes_in old file kind fork
  unfolding bytes_in blocks_of_fork fork_bytes nodes_in
  bytes-is file kind fork same =
      (λ i. fork_bytes new (mdb-is i) (fork_extents (overflow-is i) file (fork_byte kind) fork.extents) fork.length)
      ∙ ap (λ (blocks : List (List ℕ)). take fork.length (joined blocks))
      (map-same old new (block_numbers (mdb_in old) (fork_extents (overflow_in old) file (fork_byte kind) fork.extents)) same)

  contents-are : (f : FileRecord) → SameForks old new f → contents_in new f ≡ contents_in old f
  unfolding contents_in
  contents-are f same = λ i. (bytes-is f.id Data f.«data» same.0 i, bytes-is f.id Resource f.resource same.1 i)

  files-are : (keep : ℕ → Bool) (rs : Catalog) → Each (HasForksOf keep old new) rs → FilesAreSame keep old new rs
  files-are keep [] has = tt
  files-are keep (r ∷ rs) has = (λ file kept. contents-are (file_record_of r.1) (has.0 file kept), files-are keep rs has.1)

  -- where all blocks are whole
  module _ (whole-old : (n : ℕ) → n < total → length (old n) ≡ 512) (whole-new : (n : ℕ) → n < total → length (new n) ≡ 512)
      (sound : AreBlocksSound total old) where
    long-new : FilesAreLong new (catalog_in old)
    long-new = subst (λ (c : Catalog). FilesAreLong new c) records-are (files_are_long total new whole-new (sound-is sound))

    pub alike-is : AreAlike no_file (volume_in old) (volume_in new)
    alike-is = volumes-alike no_file old new volume-is (files_are_long total old whole-old sound) long-new (none-same old new (catalog_in old))

    pub alike-kept : (keep : ℕ → Bool) → Each (HasForksOf keep old new) (catalog_in old) → AreAlike keep (volume_in old) (volume_in new)
    alike-kept keep has = volumes-alike keep old new volume-is (files_are_long total old whole-old sound) long-new (files-are keep (catalog_in old) has)
