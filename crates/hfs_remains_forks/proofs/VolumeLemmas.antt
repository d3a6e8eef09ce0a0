-- What is found of a sound image is what its volume holds.
use Rattle.std.proofs.Common.{◌≡◌, ℕ, ◌<◌, ◌≤◌, Bool, true, false, cond, not, ◌&&◌, if◌then◌else◌, List, [], ◌∷◌, ◌++◌, map, None, Some, refl, sym, ap, subst, ◌∙◌, arith}
use Rattle.std.specs.Option.{is_none, option_map}
use Rattle.std.proofs.lemmas.Bool.{and_from}
use Rattle.hfs_blocks.specs.Blocks.{block_at, block_count}
use Rattle.hfs_catalog.specs.Records.{Catalog, items_of as items_in}
use Rattle.hfs_catalog.specs.Faults.{record_fault}
use Rattle.hfs_catalog.proofs.CatalogChecksLawsProved.{no_record_fault}
use Rattle.hfs_check.specs.Parts.{Blocks, catalog_in, mdb_in, catalog_extents as whole_catalog_extents, catalog_nodes as whole_catalog_nodes}
use Rattle.hfs_check.specs.Sound.{AreBlocksSound, IsSound}
use Rattle.hfs_check.proofs.LawsProved.{no_image_fault}
use Rattle.hfs_fields.specs.declared.mdb.Mdb.{Mdb}
use Rattle.hfs_fields.specs.Records.{is_item}
use Rattle.hfs_image.specs.Laws.{HoldSame}
use Rattle.hfs_image.specs.Opened.{IsOpenedOf}
use Rattle.hfs_image.specs.Seen.{HasNoFault, IsOpenedBy}
use Rattle.hfs_image.specs.declared.opening.NeededVolume.{NeededVolume}
use Rattle.hfs_image.proofs.LawsProved.{gathered_is_enough}
use Rattle.hfs_remains_places.specs.Things.{things_of}
use Rattle.hfs_remains_forks.specs.Records.{namings_of, thing_of}
use Rattle.hfs_remains_forks.proofs.RemainsLawsProved.{sound_things_are_items}
use Rattle.hfs_remains.specs.CatalogRecords.{found, is_catalog_right, is_catalog_tree_right}
use Rattle.hfs_remains.specs.Directory.{directory_of, mdb_at, tree_begins}
use Rattle.hfs_remains.specs.Items.{items_of}
use Rattle.hfs_remains.specs.OverflowRecords.{catalog_extents}
use Rattle.hfs_remains.specs.Remains.{extents_file_blocks, remaining_overflow, remaining_records}
use Rattle.hfs_remains.specs.TreeFiles.{file_blocks}
use Rattle.hfs_remains.specs.declared.catalog.FoundRecord.{FoundRecord}
use Rattle.hfs_remains.proofs.DirectoryLemmas.{extents-begin}
use Rattle.hfs_remains.proofs.SoundLemmas.{catalog-nodes, catalog-right, extents-are}
use Rattle.hfs_remains.proofs.LawsProved.{sound_catalog_is_found, sound_directory_is_found, sound_items_are_found, sound_overflow_is_found}
use Rattle.hfs_space.specs.Extents.{block_total}
use Rattle.hfs_source.specs.Sparse.{sparse}
use Rattle.hfs_remains_forks.specs.declared.finds.Finds.{Finds}
use Rattle.hfs_remains_forks.specs.Finds.{AreFinds, IsFoundIn, is_right_by, is_unsure_by, things_by}
use Rattle.hfs_remains_forks.specs.Volumes.{AreFindsOf, AreFindsOfOpened, young_items}

-- the items of a catalog, none of which is old
young-are : (catalog : Catalog) → young_items catalog ≡ map (found false) (items_in catalog)
young-are [] = refl
young-are (r ∷ rs) =
    elim (is_item r.1) as (λ b. (if b then found false r ∷ [] else []) ++ young_items rs ≡ map (found false) (cond b (r ∷ items_in rs) (items_in rs)))
    [ true ↦ ap (λ (l : List FoundRecord). found false r ∷ l) (young-are rs) | false ↦ young-are rs ]

module _ (volume : NeededVolume) (finds : Finds) (are : AreFindsOf volume finds) (begins : 0 < block_total volume.sound.mdb.catalog_file) (image : List ℕ) (none : HasNoFault image)
    (opened : IsOpenedBy volume image) where
  abbrev total : ℕ
  total = block_count image

  abbrev blocks : Blocks
  blocks = block_at image

  sound : IsSound image
  sound = (no_image_fault image).0 none

  abbrev h : AreBlocksSound total blocks
  h = sound.blocks

  same : HoldSame total (sparse volume.read) blocks
  same = (gathered_is_enough total image volume.read opened.needed opened.of).held opened.sound

  -- the directory that was read is the image's
  directory : volume.sound.mdb ≡ mdb_in blocks
  directory = opened.directory ∙ sym same.directory

  own : finds.mdb ≡ mdb_in blocks
  own = are.mdb_is ∙ directory

  in-place : directory_of image ≡ Some 2
  in-place = sound_directory_is_found image sound (subst (λ (m : Mdb). 0 < block_total m.catalog_file) directory begins)

  fields : option_map (mdb_at blocks) (directory_of image) ≡ Some finds.mdb
  unfolding mdb_in
  fields = ap (option_map (mdb_at blocks)) in-place ∙ ap Some (sym own)

  sure : is_unsure_by total blocks finds.mdb ≡ false
  sure =
      ap (is_unsure_by total blocks) own
      ∙ ap (λ (b : Bool). not b && not (tree_begins total blocks (mdb_in blocks) (mdb_in blocks).catalog_file)) (extents-begin total blocks h)

  -- the records of the extents tree
  overflow : remaining_overflow volume.count (sparse volume.read) volume.sound.mdb ≡ remaining_overflow total blocks finds.mdb
  overflow =
      (λ i. remaining_overflow (opened.whole i) (sparse volume.read) (opened.directory i))
      ∙ sound_overflow_is_found total (sparse volume.read) opened.sound
      ∙ sym same.overflow
      ∙ sym (sound_overflow_is_found total blocks h)
      ∙ ap (remaining_overflow total blocks) (sym own)

  right : is_right_by total blocks finds.mdb ≡ true
  unfolding is_catalog_right catalog_in
  right =
      ap (is_right_by total blocks) own
      ∙ (λ i. is_catalog_right (mdb_in blocks) (extents-are total blocks h i) (catalog-nodes total blocks h i))
      ∙ and_from (is_catalog_tree_right (mdb_in blocks) (whole_catalog_extents blocks) (whole_catalog_nodes blocks)) (is_none (record_fault (catalog_in blocks))) (catalog-right total blocks h) (ap is_none ((no_record_fault (catalog_in blocks)).1 h.records))

  -- the records of the catalog, and the items among them
  catalog : young_items (catalog_in (sparse volume.read)) ≡ map (found false) (items_in (catalog_in blocks))
  catalog = young-are (catalog_in (sparse volume.read)) ∙ ap (λ (c : Catalog). map (found false) (items_in c)) (sym same.catalog)

  items : young_items (catalog_in (sparse volume.read)) ≡ items_of (remaining_records total blocks finds.mdb)
  items = catalog ∙ sym (sound_items_are_found total blocks h) ∙ ap (λ (m : Mdb). items_of (remaining_records total blocks m)) (sym own)

  things : map thing_of (young_items (catalog_in (sparse volume.read))) ≡ things_by total blocks finds.mdb
  things =
      ap (map thing_of) catalog
      ∙ sym (sound_things_are_items total blocks h)
      ∙ (λ i. things_of (map thing_of (sym (sound_items_are_found total blocks h) i)) (namings_of (sym (sound_catalog_is_found total blocks h) i)))
      ∙ ap (things_by total blocks) (sym own)

  by : AreFinds image finds
  by = record {
    directory_is = in-place ∙ ap Some (sym are.directory_is);
    unsure_is = are.unsure_is ∙ sym sure;
    total_is = are.total_is ∙ opened.whole;
    overflow_is = are.overflow_is ∙ overflow;
    extents_file_is = are.extents_file_is ∙ (λ i. extents_file_blocks (opened.whole i) (sym are.mdb_is i));
    catalog_file_is = are.catalog_file_is ∙ (λ i. file_blocks (opened.whole i) (sym are.mdb_is i) (catalog_extents (overflow i) (sym are.mdb_is i)));
    right_is = are.right_is ∙ sym right;
    items_are = are.items_are ∙ items;
    places_are = are.places_are ∙ things;
  }

  found-in : IsFoundIn image (Some finds)
  found-in = (fields, by)

pub opened_found : (volume : NeededVolume) (finds : Finds) → AreFindsOf volume finds → 0 < block_total volume.sound.mdb.catalog_file → AreFindsOfOpened volume finds
opened_found volume finds are begins image none opened = found-in volume finds are begins image none opened

-- ---- the directory

-- a volume that was opened has allocation blocks of 512 bytes at least, and three blocks
pub directory_sound : (volume : NeededVolume) → IsOpenedOf None volume.count volume → 512 ≤ volume.sound.mdb.allocation_block_size
directory_sound volume opened = subst (λ (m : Mdb). 512 ≤ m.allocation_block_size) (sym opened.directory) opened.sound.mdb.least_size

pub directory_within : (volume : NeededVolume) → IsOpenedOf None volume.count volume → 2 < volume.count
directory_within volume opened = omega (arith, opened.sound.mdb.bitmap_behind, opened.sound.mdb.bitmap_before, opened.sound.mdb.area)
