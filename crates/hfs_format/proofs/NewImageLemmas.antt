-- The image of a new volume is sound, and holds the root folder alone.
use Rattle.std.proofs.Common.{◌≡◌, ◌*◌, true, [], ◌∷◌, map, take, refl, sym, ap, subst, ◌∙◌, arith}
use Rattle.std.specs.FinMap as finite
use Rattle.std.specs.List.{flat_map}
use Rattle.hfs_fields.specs.Mdb.{mdb_of}
use Rattle.hfs_fields.specs.Records.{is_dir, dir_record_of, is_bit_set, new_dir}
use Rattle.hfs_fields.specs.RecordForms.{dir_record_bytes}
use Rattle.hfs_fields.specs.declared.mdb.Mdb.{Mdb}
use Rattle.hfs_btree_checks.specs.Order.{index_keys, index_keys_at}
use Rattle.hfs_fields.specs.Each.{Each}
use Rattle.hfs_btree.specs.Tree.{records_in, key_at}
use Rattle.hfs_model.specs.Volume.{Entry}
use Rattle.hfs_space.specs.TreeFiles.{tree_nodes}
use Rattle.hfs_space.specs.TreeKeys.{ext_keys, overflow_of}
use Rattle.hfs_space.specs.Owners.{catalog_fork, extents_in, owned_blocks}
use Rattle.hfs_space.specs.Sound.{AreForksSound, IsSpaceSound}
use Rattle.hfs_catalog.specs.Items.{Contents, folder_kept, folder_of, item_of, entry_of, items_in}
use Rattle.hfs_catalog.specs.Records.{Record, Catalog}
use Rattle.hfs_catalog.specs.Sound.{EachFolder, IsRecord, AreIdsSound, IsIndexKeyName, HasValence, AreCountsSound}
use Rattle.hfs_catalog.specs.Tree.{cat_keys, catalog_of}
use Rattle.hfs_format.specs.declared.layout.Layout.{Layout}
use Rattle.hfs_format.specs.Plan.{layout_of}
use Rattle.hfs_format.specs.Image.{volume_image}
use Rattle.hfs_format.specs.NewMdb.{new_mdb}
use Rattle.hfs_check.specs.Parts.{mdb_in, extents_nodes, overflow_in, catalog_extents, catalog_nodes, catalog_in, owned_in}
use Rattle.hfs_check.specs.Sound.{IsMdbSound, IsForkKey, EachKey, IsExtentsSound, IsCatalogFileSound, AreCatalogNamesSound, AreCatalogPlacesSound, AreBlocksSound, IsSound}
use Rattle.hfs_check.specs.VolumeOf.{contents_in, volume_in, volume_of}
use Rattle.hfs_format.specs.FormatLaws.{root_item, volume_of_root, NewImagesAreSound, NewImagesHoldNewVolumes}
use Rattle.hfs_format.proofs.NewVolumeLemmas.{IsNewVolume, files-within, mdb_of-new}
use Rattle.hfs_format.proofs.NewBlocks.{block_at-volume_image, block_count-volume_image, length-volume_image}
use Rattle.hfs_format.proofs.SmallTrees.{no_leaf-turn, one_leaf-turn}
use Rattle.hfs_format.proofs.NewFiles.{image_block, tree_nodes-one_run, new_extents_nodes, new_catalog_nodes, new_block-mdb, root_key, root_pair, root_records, new_catalog, extents-holds, catalog-holds, overflow_of-new, extents-shaped, extents-ordered, catalog_of-new, catalog-shaped, catalog-ordered}
use Rattle.hfs_format.proofs.NewCatalog.{root-folder, root-read, root-id, items_of-new, new-records, new-ids, new-names, new-places, new-valences, new_counts-sound}
use Rattle.hfs_format.proofs.NewSpace.{extents-file, catalog-file, new_mdb-sound, new_forks-sound, catalog_extents-new, new_owned, owned_blocks-new, new_space-sound}
use Rattle.hfs_format.proofs.PlanFacts.{is_new_volume-planned}

-- what holds of the values holds of what is equal to them
for-two : {A B : Type 0} (P : A → B → Type 0) {a c : A} {b d : B} → c ≡ a → d ≡ b → P a b → P c d
for-two P {a} {c} {b} {d} e f h = subst (λ x. P x d) (sym e) (subst (P a) (sym f) h)

for-three : {A B C : Type 0} (P : A → B → C → Type 0) {a d : A} {b e : B} {c f : C} → d ≡ a → e ≡ b → f ≡ c → P a b c → P d e f
for-three P {a} {d} {b} {e} {c} {f} p q r h = subst (λ x. P x e f) (sym p) (subst (λ y. P a y f) (sym q) (subst (P a b) (sym r) h))

folder-item : (contents : Contents) (catalog : Catalog) (r : Record) → is_dir r.1 ≡ true → item_of contents catalog r ≡ folder_of r.0 (dir_record_of r.1)
unfolding item_of
folder-item contents catalog r e = rw e refl

module _ (volume : Layout) (ok : IsNewVolume volume) where
  -- ---- the parts

  mdb-is : mdb_in (image_block volume) ≡ new_mdb volume
  unfolding mdb_in
  mdb-is =
      let within = files-within volume ok in
      ap (λ bytes. mdb_of (take 162 bytes)) (block_at-volume_image volume ok 2 (omega (arith, ok.behind_bitmap)) ∙ new_block-mdb volume) ∙ mdb_of-new volume ok

  extents_file-is : tree_nodes (image_block volume) (new_mdb volume) (new_mdb volume).extents_file (new_mdb volume).extents_file_size ≡ new_extents_nodes volume
  unfolding new_mdb
  extents_file-is = tree_nodes-one_run (image_block volume) volume 0 volume.extents.blocks volume.extents.nodes ok.extents

  catalog_file-is : tree_nodes (image_block volume) (new_mdb volume) (new_mdb volume).catalog_file (new_mdb volume).catalog_file_size ≡ new_catalog_nodes volume
  unfolding new_mdb
  catalog_file-is = tree_nodes-one_run (image_block volume) volume volume.extents.blocks volume.catalog.blocks volume.catalog.nodes ok.catalog

  extents_nodes-is : extents_nodes (image_block volume) ≡ new_extents_nodes volume
  unfolding extents_nodes
  extents_nodes-is =
      ap (λ (mdb : Mdb). tree_nodes (image_block volume) mdb mdb.extents_file mdb.extents_file_size) mdb-is
      ∙ extents_file-is

  overflow-is : overflow_in (image_block volume) ≡ []
  unfolding overflow_in
  overflow-is = ap overflow_of extents_nodes-is ∙ overflow_of-new volume ok

  catalog_extents-is : catalog_extents (image_block volume) ≡ (new_mdb volume).catalog_file
  unfolding catalog_extents
  catalog_extents-is = (λ i. extents_in (overflow-is i) (catalog_fork (mdb-is i))) ∙ catalog_extents-new volume ok

  catalog_nodes-is : catalog_nodes (image_block volume) ≡ new_catalog_nodes volume
  unfolding catalog_nodes
  catalog_nodes-is =
      (λ i. tree_nodes (image_block volume) (mdb-is i) (catalog_extents-is i) (mdb-is i).catalog_file_size)
      ∙ catalog_file-is

  catalog-is : catalog_in (image_block volume) ≡ new_catalog volume
  unfolding catalog_in
  catalog-is = ap catalog_of catalog_nodes-is ∙ catalog_of-new volume ok

  owned-is : owned_in (image_block volume) ≡ new_owned volume
  unfolding owned_in
  owned-is = (λ i. owned_blocks (mdb-is i) (overflow-is i) (catalog-is i)) ∙ owned_blocks-new volume ok

  -- ---- the trees

  no_fork_keys : EachKey ext_keys IsForkKey (new_extents_nodes volume)
  no_fork_keys =
      subst (Each (λ spot. Each (λ entry. IsForkKey (key_at ext_keys spot.above entry)) (records_in (new_extents_nodes volume) spot.n)))
      (sym (no_leaf-turn ext_keys volume.extents.nodes (new_extents_nodes volume) (extents-holds volume ok))) tt

  no_index_keys : index_keys cat_keys (new_catalog_nodes volume) ≡ []
  unfolding index_keys
  no_index_keys =
      ap (flat_map (index_keys_at cat_keys (new_catalog_nodes volume)))
      (one_leaf-turn cat_keys volume.catalog.nodes (root_records volume) (new_catalog_nodes volume) (catalog-holds volume ok))

  extents-sound : IsExtentsSound (new_mdb volume) (new_extents_nodes volume)
  unfolding new_mdb
  extents-sound = record { file = extents-file volume ok; shape = extents-shaped volume ok; forks = no_fork_keys; ordered = extents-ordered volume ok }

  catalog-sound : IsCatalogFileSound (new_mdb volume) (new_mdb volume).catalog_file (new_catalog_nodes volume)
  unfolding new_mdb
  catalog-sound = record { file = catalog-file volume ok; shape = catalog-shaped volume ok }

  names-sound : AreCatalogNamesSound (new_catalog_nodes volume) (new_catalog volume)
  names-sound = record { records = new-names volume ok; index = subst (Each IsIndexKeyName) (sym no_index_keys) tt }

  places-sound : AreCatalogPlacesSound (new_catalog_nodes volume) (new_catalog volume)
  places-sound = record { records = new-places volume ok; index = (catalog-ordered volume ok).keys }

  -- ---- the whole

  blocks-sound : AreBlocksSound volume.blocks (image_block volume)
  unfolding new_mdb
  blocks-sound = record {
    mdb = subst (IsMdbSound volume.blocks) (sym mdb-is) (new_mdb-sound volume ok);
    extents = for-two IsExtentsSound mdb-is extents_nodes-is extents-sound;
    catalog = for-three IsCatalogFileSound mdb-is catalog_extents-is catalog_nodes-is catalog-sound;
    records = subst (Each IsRecord) (sym catalog-is) (new-records volume ok);
    ids = for-two (λ (mdb : Mdb) (catalog : Catalog). AreIdsSound mdb.next_id catalog) mdb-is catalog-is (new-ids volume ok);
    names = for-two AreCatalogNamesSound catalog_nodes-is catalog-is names-sound;
    places = for-two AreCatalogPlacesSound catalog_nodes-is catalog-is places-sound;
    valences = subst (λ (catalog : Catalog). EachFolder (HasValence catalog) catalog) (sym catalog-is) (new-valences volume ok);
    counts = for-two AreCountsSound mdb-is catalog-is (new_counts-sound volume ok);
    forks = for-three AreForksSound mdb-is overflow-is catalog-is (new_forks-sound volume ok);
    space = for-two (IsSpaceSound (image_block volume)) mdb-is owned-is (new_space-sound volume ok);
  }

  image-sound : IsSound (volume_image volume)
  image-sound =
      let whole = length-volume_image volume ok in
      let within = files-within volume ok in
      record {
        len = record { least = omega (arith, ok.behind_bitmap); most = omega (arith, ok.blocks) };
        blocks = subst (λ total. AreBlocksSound total (image_block volume)) (sym (block_count-volume_image volume ok)) blocks-sound;
      }

  -- ---- the volume

  root-entry : (contents : Contents) (catalog : Catalog) → entry_of contents catalog (root_pair volume) ≡ (2, root_item volume.name volume.moment)
  unfolding folder_of folder_kept dir_record_bytes new_dir
  root-entry contents catalog =
      let item = folder-item contents catalog (root_pair volume) (root-folder volume ok) ∙ ap (folder_of (root_key volume)) (root-read volume ok) in
      λ i. (root-id volume ok i, item i)

  volume-is : volume_of (volume_image volume) ≡ volume_of_root volume.name volume.moment (512 * volume.factor)
  unfolding volume_of volume_in items_in new_mdb
  volume-is =
      let contents = contents_in (image_block volume) in
      let items =
      ap (items_in contents) catalog-is
      ∙ ap (λ (records : Catalog). finite.from_entries (map (entry_of contents (new_catalog volume)) records)) (items_of-new volume ok)
      ∙ ap (λ (e : Entry). finite.from_entries (e ∷ [])) (root-entry contents (new_catalog volume)) in
      λ i. record {
        items = items i;
        next_id = (mdb-is i).next_id;
        changed = (mdb-is i).modified;
        hardware_locked = is_bit_set 7 (mdb-is i).attributes.0;
        software_locked = is_bit_set 15 (mdb-is i).attributes.0;
        block_size = (mdb-is i).allocation_block_size;
      }

-- ---- of plans

pub new_images-sound : NewImagesAreSound
new_images-sound plan moment none = image-sound (layout_of plan) (is_new_volume-planned plan moment none)

pub new_images-hold : NewImagesHoldNewVolumes
unfolding layout_of
new_images-hold plan moment none = volume-is (layout_of plan) (is_new_volume-planned plan moment none)
