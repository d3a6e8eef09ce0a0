-- The deletion of a file that a call chose, with its forks' blocks, is the step of Delete.
use Rattle.std.proofs.Common.{◌≡◌, ⊎_elim, ℕ, ◌+◌, ◌-◌, ◌≤◌, Bool, true, false, cond, List, [], ◌∷◌, length, refl, sym, ◌∙◌, ap, subst, arith, true≢false}
use Rattle.std.specs.List.{flat_map, range_with_len}
use Rattle.std.proofs.lemmas.List.Sums.{sum_by-cons}
use Rattle.std.proofs.lemmas.List.{length-append}
use Rattle.std.proofs.lemmas.List.FromFn.{length-range_with_len}
use Rattle.hfs_fields.specs.declared.key.CatKey.{CatKey}
use Rattle.hfs_fields.specs.declared.extent.Extent.{Extent}
use Rattle.hfs_fields.specs.declared.file_record.FileRecord.{FileRecord}
use Rattle.hfs_fields.specs.declared.mdb.Mdb.{Mdb}
use Rattle.hfs_fields.specs.Records.{is_dir, item_id, dir_record_of, file_record_of}
use Rattle.hfs_fields.specs.Members.{In}
use Rattle.hfs_fields.proofs.MemberLemmas.{each_in}
use Rattle.hfs_btree.specs.Tree.{Store}
use Rattle.hfs_space.specs.Extents.{AreExtentsWithin, block_total, extent_blocks}
use Rattle.hfs_space.specs.Owners.{Fork, forks_of, forks_of_file, extents_in}
use Rattle.hfs_space.specs.TreeKeys.{overflow_of}
use Rattle.hfs_record_edits.specs.Dropped.{HasDroppedOverflow}
use Rattle.hfs_record_edits.specs.Released.{AreAlone}
use Rattle.hfs_model.specs.declared.call.Call.TheVariants as call
use Rattle.hfs_model.specs.Choices.{to_delete}
use Rattle.hfs_catalog.specs.Records.{Record, Catalog}
use Rattle.hfs_catalog.specs.Lookups.{thread_of}
use Rattle.hfs_catalog.specs.Sound.{IsRoot, IsGiven}
use Rattle.hfs_record_edits.proofs.BodyLemmas.{dir_length, file_length}
use Rattle.hfs_check.specs.Parts.{Blocks, mdb_in, extents_nodes, overflow_in, catalog_nodes, catalog_in}
use Rattle.hfs_check.specs.Sound.{AreBlocksSound}
use Rattle.hfs_check.specs.VolumeOf.{volume_in}
use Rattle.hfs_record_edits.specs.Deletion.{EditsVolume, HasCleared, without_one_file, DeletionsAreSteps}
use Rattle.hfs_record_edits.proofs.DeletionLaws.{fork_blocks, DeleteFileMakes, ForkBlocksAreAlone, ForkExtentsAreWithin}
use Rattle.hfs_record_edits.proofs.DropLaws.{DroppedLeaves}
use Rattle.hfs_record_edits.proofs.PlaceLaws.{DeleteLeavesFolder}
use Rattle.hfs_record_edits.proofs.RemovalLaws.{HasDroppedItem}
use Rattle.hfs_record_edits.proofs.SettingLaws.{ChoiceStands}
use Rattle.hfs_items.proofs.FolderLemmas.{found_with}
use Rattle.hfs_call_patches.specs.Deleting.{IsParent, ItemDropped, IsFileDeleted}
use Rattle.hfs_call_patches.proofs.DeletingLemmas.{IsFileGone}
use Rattle.hfs_call_patches.specs.Settings.{IsFileChoice}
use Rattle.hfs_call_patches.proofs.FromFolder.{dropped_by}

-- so many blocks have the extents
pub blocks_counted : (es : List Extent) → block_total es ≡ length (extent_blocks es)
blocks_counted [] = refl
blocks_counted (e ∷ es) =
    let own = λ (x : Extent). range_with_len x.first x.count in
    let one = sum_by-cons (λ (x : Extent). x.count) e es in
    let parts = length-append (own e) (extent_blocks es) in
    omega (arith, one, parts, length-range_with_len e.first e.count, blocks_counted es)

module _ (total dir : ℕ) (name : List ℕ) (key : CatKey) (file : FileRecord) (old : Blocks) (h : AreBlocksSound total old) (ch : IsFileChoice old (to_delete (volume_in old) dir name) key file) where
  abbrev a : Record
  a = ch.of

  no_folder : is_dir a.1 ≡ false
  no_folder = by (is_dir a.1) refl
    where
      by : (b : Bool) → is_dir a.1 ≡ b → b ≡ false
      by true e = absurd (omega (arith, dir_length a.1 e, file_length a.1 ch.is))
      by false e = refl

  there : In a (catalog_in old)
  there = (found_with (catalog_in old) ch.choice.id a ch.choice.was).there

  id_is : item_id a.1 ≡ (file_record_of a.1).id
  id_is = ap (λ (b : Bool). cond b (dir_record_of a.1).id (file_record_of a.1).id) no_folder

  pub file_chosen_id : ch.choice.id ≡ file.id
  file_chosen_id = sym (found_with (catalog_in old) ch.choice.id a ch.choice.was).same ∙ id_is ∙ ap (λ (f : FileRecord). f.id) ch.own_file

  pub file_given : 16 ≤ file.id
  file_given =
      let found = found_with (catalog_in old) ch.choice.id a ch.choice.was in
      let is : item_id a.1 ≡ file.id = found.same ∙ file_chosen_id in
      ⊎_elim
      (λ (root : IsRoot a). absurd (true≢false (sym root.folder ∙ no_folder)))
      (λ (one : IsGiven (mdb_in old).next_id a). let low = one.least in omega (arith, low, is))
      (each_in _ (catalog_in old) a h.ids.each there found.item)

  forks_are : forks_of a ≡ forks_of_file file
  forks_are = ap (λ (b : Bool). cond b (forks_of_file (file_record_of a.1)) []) ch.is ∙ ap forks_of_file ch.own_file

  module _ (xs : List Extent) (nodes : Store) (is : nodes ≡ extents_nodes old) (e : xs ≡ flat_map (extents_in (overflow_of nodes)) (forks_of_file file)) where
    freed_is : xs ≡ flat_map (extents_in (overflow_in old)) (forks_of a)
    unfolding overflow_in
    freed_is = e ∙ ap (λ (s : Store). flat_map (extents_in (overflow_of s)) (forks_of_file file)) is ∙ ap (λ (fs : List Fork). flat_map (extents_in (overflow_of (extents_nodes old))) fs) (sym forks_are)

    pub freed_within : ForkExtentsAreWithin → AreExtentsWithin (mdb_in old).allocation_blocks xs
    freed_within law = subst (AreExtentsWithin (mdb_in old).allocation_blocks) (sym freed_is) (law total a old h there)

    pub freed_alone : ForkBlocksAreAlone → AreAlone old (mdb_in old).bitmap_start (extent_blocks xs)
    freed_alone law = subst (λ (l : List Extent). AreAlone old (mdb_in old).bitmap_start (extent_blocks l)) (sym freed_is) (law total a old h there)

    -- ---- the whole

    module _ (stands : ChoiceStands) (folders : DeleteLeavesFolder) (leaves : DroppedLeaves) (makes : DeleteFileMakes) (steps : DeletionsAreSteps) (now valence : ℕ) (parent : CatKey) (p : IsParent (catalog_in old) dir parent valence)
        (mdb counts : Mdb) (own : mdb ≡ mdb_in old) (with : counts ≡ without_one_file dir (mdb.free_blocks + block_total xs) now mdb) (new : Blocks) (final : Store)
        (d : ItemDropped key file.id parent (valence - 1) now (catalog_nodes old) final) (gone : IsFileGone file.id (extent_blocks xs) counts final old new) where
      abbrev clear : ℕ
      clear = (mdb_in old).free_blocks + length (extent_blocks xs)

      counts_are : counts ≡ without_one_file dir clear now (mdb_in old)
      counts_are = with ∙ (λ i. without_one_file dir ((own i).free_blocks + blocks_counted xs i) now (own i))

      went : HasDroppedItem ch.choice.id dir a p.of now (catalog_in old) (catalog_in new)
      went =
          subst (λ (k : Catalog). HasDroppedItem ch.choice.id dir a p.of now (catalog_in old) k) (sym gone.content)
          (dropped_by stands folders total dir file.id name key parent valence a old h ch.choice ch.own_key file_chosen_id p (catalog_nodes old) refl now final d)

      pub file_deleted : IsFileDeleted dir name now total old counts new
      file_deleted = record {
        stepped =
            steps (call.Delete dir name now) ch.choice.id (fork_blocks (overflow_in old) a) (without_one_file dir clear now (mdb_in old)) total old new h
            (makes total dir clear now name a (thread_of (catalog_in old) ch.choice.id) p.of old new h ch.choice (record {
              file = ch.is;
              folder_value = went.value;
              dropped = leaves total now dir name a p.of old (catalog_in new) h ch.choice went;
              edits = subst (λ (m : Mdb). EditsVolume m old new) counts_are gone.edits;
              beside = gone.beside;
              tree = gone.tree;
              frame = gone.frame;
              index = gone.index;
              overflow = subst (λ (k : ℕ). HasDroppedOverflow k (extents_nodes old) (extents_nodes new)) (sym file_chosen_id) gone.overflow;
              cleared = subst (λ (l : List Extent). HasCleared (extent_blocks l) old new) freed_is gone.cleared;
              free = sym gone.free;
            }));
        directory = gone.edits.mdb;
      }
