-- What a new item makes of a volume.
use Rattle.std.proofs.Common.{◌≡◌, ℕ, ◌+◌, ◌<◌, ◌^◌, true, List, refl, sym, ◌∙◌, ap, subst, arith, inl, inr, Some, None}
use Rattle.hfs_fields.specs.declared.key.CatKey.{CatKey}
use Rattle.hfs_fields.specs.declared.mdb.Mdb.{Mdb}
use Rattle.hfs_fields.specs.Counts.{with_counts}
use Rattle.hfs_fields.specs.Names.{is_item_name}
use Rattle.hfs_fields.specs.Records.{dir_record_of}
use Rattle.hfs_fields.specs.RecordForms.{IsDirRecordValue}
use Rattle.hfs_blocks.specs.declared.run.Run.{Run}
use Rattle.hfs_blocks.specs.Layers.{Numbered, changes, over, AreWithin}
use Rattle.hfs_btree.specs.Tree.{Store}
use Rattle.hfs_fields.proofs.MemberLemmas.{each_in}
use Rattle.hfs_catalog.specs.Records.{Record, Catalog}
use Rattle.hfs_catalog.specs.Lookups.{thread_of}
use Rattle.hfs_catalog.specs.Sound.{IsIndexKeyName}
use Rattle.hfs_catalog.specs.Tree.{catalog_of}
use Rattle.hfs_record_edits.proofs.FindLemmas.{no_thread_key}
use Rattle.hfs_record_edits.proofs.RootLemmas.{sound_has_root}
use Rattle.hfs_record_edits.specs.Swaps.{Swaps}
use Rattle.hfs_model.specs.declared.call.Call.TheVariants as call
use Rattle.hfs_model.specs.declared.reply.Value.TheVariants as answer
use Rattle.hfs_model.specs.Replies.{success}
use Rattle.hfs_check.specs.Parts.{Blocks, mdb_in, catalog_nodes, catalog_in}
use Rattle.hfs_check.specs.VolumeOf.{volume_in}
use Rattle.hfs_record_edits.proofs.BoundLaws.{HasRoomForOne, CreationFits}
use Rattle.hfs_record_edits.specs.Changes.{with_children, folder_with}
use Rattle.hfs_record_edits.specs.CreationLaws.{with_file, with_folder}
use Rattle.hfs_record_edits.proofs.CreationLaws.{CreateMakes, DirCreateMakes}
use Rattle.hfs_record_edits.specs.Laws.{CatalogEditsAreSteps}
use Rattle.hfs_record_edits.specs.OnBlocks.{HasTree}
use Rattle.hfs_record_edits.proofs.PlaceLaws.{FolderIdIs, CreationIsFree, NextIsThreadless}
use Rattle.hfs_items.proofs.FolderLemmas.{found_with}
use Rattle.hfs_call_patches.specs.declared.new_items.NewPlace.{NewPlace}
use Rattle.hfs_call_patches.specs.CatalogPatch.{KeepsNamed, HasCatalog}
use Rattle.hfs_call_patches.specs.CallChanges.{IsChangeOf}
use Rattle.hfs_call_patches.specs.NewItems.{IsOwnFolder, TakesItem, TakesFolder, HasPutFile, PutsFile, HasPutFolder, PutsFolder}
use Rattle.hfs_call_patches.specs.ReadyPlaces.{IsReady}
use Rattle.hfs_call_patches.proofs.CreationAnswerLemmas.{file_answered, folder_answered}
use Rattle.hfs_record_edits.proofs.NewItems.{named_long}

-- ---- what the calls answer

-- what was put into the nodes that the catalog's are
pub file_in : {id dir now : ℕ} {place : NewPlace} {opened nodes middle : Store} → opened ≡ nodes → PutsFile id dir place now opened middle → PutsFile id dir place now nodes middle
file_in {id = id} {dir = dir} {now = now} {place = place} {middle = middle} same puts = subst (λ (s : Store). PutsFile id dir place now s middle) same puts

pub folder_in : {id dir now : ℕ} {place : NewPlace} {opened nodes middle : Store} → opened ≡ nodes → PutsFolder id dir place now opened middle → PutsFolder id dir place now nodes middle
folder_in {id = id} {dir = dir} {now = now} {place = place} {middle = middle} same puts = subst (λ (s : Store). PutsFolder id dir place now s middle) same puts

-- ---- a volume that is ready

module _ (total dir : ℕ) (old : Blocks) (runs : List Run) (mdb : Mdb) (place : NewPlace) (ready : IsReady total old runs mdb dir place) where
  abbrev r : Record
  r = ready.chosen.of

  pub fits : CreationFits → HasRoomForOne mdb dir ready.chosen.of
  fits law = subst (λ (m : Mdb). HasRoomForOne m dir r) (sym ready.directory) (law total dir _ place.name r old ready.sound ready.records ready.chosen.is ready.chosen.parent)

  pub short : CreationFits → place.children + 1 < 2 ^ 16
  short law = let room = (fits law).valence in omega (arith, room, ready.chosen.own_children)

  pub own : IsOwnFolder place (catalog_of (catalog_nodes old)) ready.chosen.of
  unfolding catalog_in
  own = record { there = (found_with (catalog_in old) dir r ready.chosen.parent.was).there; own_key = ready.chosen.own_key; folder = ready.chosen.parent.folder }

  pub takes_item : FolderIdIs → CreationIsFree → TakesItem dir place (catalog_nodes old)
  unfolding catalog_in
  takes_item low free = record {
    root = sound_has_root (mdb_in old).next_id (catalog_in old) ready.sound.ids;
    low = low total dir r old ready.sound ready.chosen.parent;
    absent = free total dir _ place.name old ready.sound ready.chosen.is;
    of = r;
    own = own;
    inside = ready.inside;
  }

  pub takes_folder : FolderIdIs → CreationIsFree → NextIsThreadless → TakesFolder mdb.next_id dir place (catalog_nodes old)
  unfolding catalog_in
  takes_folder low free threadless = record {
    item = takes_item low free;
    some_name = named_long place.name ready.chosen.named;
    some_id = omega (arith, ready.sound.mdb.next_id, ap (λ (m : Mdb). m.next_id) ready.directory);
    threadless = no_thread_key mdb.next_id (catalog_in old) ready.sound.records
        (subst (λ (m : Mdb). thread_of (catalog_in old) m.next_id ≡ None) (sym ready.directory) (threadless total old ready.sound));
  }

  -- ---- the names of the keys that came

  folder_named : IsIndexKeyName place.folder
  folder_named = inr (subst (λ (k : CatKey). is_item_name k.name ≡ true) ready.chosen.own_key
      (let found = found_with (catalog_in old) dir r ready.chosen.parent.was in each_in _ (catalog_in old) r ready.sound.names.records.items found.there found.item))

  pub file_keys : (now : ℕ) (middle : Store) → PutsFile mdb.next_id dir place now (catalog_nodes old) middle → KeepsNamed (catalog_nodes old) middle
  file_keys now middle puts = record { given = _; keeps = (puts r own).keeps; named = (folder_named, (inr ready.chosen.named, tt)) }

  pub folder_keys : (now : ℕ) (middle : Store) → PutsFolder mdb.next_id dir place now (catalog_nodes old) middle → KeepsNamed (catalog_nodes old) middle
  folder_keys now middle puts = record { given = _; keeps = (puts r own).keeps; named = (folder_named, (inl refl, (inr ready.chosen.named, tt))) }

  -- ---- the change

  module _ (law : CatalogEditsAreSteps) (now : ℕ) (counts : Mdb) (middle : Store) (patch : Numbered) (within : AreWithin (changes patch) total) where
    abbrev new : Blocks
    new = over (changes patch) old

    -- the counts and the ID of the directory that was found are those of the volume
    valence_same : (P : ℕ → Type 0) → P (place.children + 1) → P ((dir_record_of r.1).valence + 1)
    valence_same P p = subst (λ (n : ℕ). P (n + 1)) ready.chosen.own_children p

    pub file_change : CreateMakes → counts ≡ with_file dir now mdb → PutsFile mdb.next_id dir place now (catalog_nodes old) middle → HasCatalog counts (catalog_of middle) old new
        → IsChangeOf (call.Create dir place.name now) total old (record { patch = patch; counts = counts; written = None; value = answer.Id mdb.next_id })
    unfolding catalog_in
    file_change makes counted puts done =
        let put = subst (λ (m : Mdb). HasPutFile m.next_id dir place now r (catalog_nodes old) middle) ready.directory (puts r own) in
        let is : counts ≡ with_file dir now (mdb_in old) = counted ∙ ap (with_file dir now) ready.directory in
        let made = makes total now dir place.name r old new ready.sound ready.chosen.is (record {
          first = put.first;
          file_came = put.file_came;
          folder_set = valence_same (λ n. Swaps (Some r) (Some (folder_with n now r)) put.first (catalog_in new)) (subst (λ (l : Catalog). Swaps (Some r) (Some (folder_with (place.children + 1) now r)) put.first l) (sym done.content) put.folder_set);
          parent = ready.chosen.parent;
          file_value = put.file_value;
          folder_value = valence_same (λ n. IsDirRecordValue (with_children n now (dir_record_of r.1))) put.folder_value;
          tree = subst (λ (m : Mdb). HasTree m old new) is done.tree;
        }) in
        record {
          within = within;
          stepped = law (call.Create dir place.name now) (with_file dir now (mdb_in old)) total old new ready.sound made;
          zeros = tt;
          unwritten = λ other. refl;
          directory = made.edits.mdb ∙ ap (λ (m : Mdb). with_counts m (mdb_in old)) (sym is);
          reply = file_answered (volume_in old) dir now place.name _ ready.chosen.is ∙ ap (λ (m : Mdb). success (answer.Id m.next_id)) (sym ready.directory);
        }

    pub folder_change : DirCreateMakes → counts ≡ with_folder dir now mdb → PutsFolder mdb.next_id dir place now (catalog_nodes old) middle → HasCatalog counts (catalog_of middle) old new
        → IsChangeOf (call.DirCreate dir place.name now) total old (record { patch = patch; counts = counts; written = None; value = answer.Id mdb.next_id })
    unfolding catalog_in
    folder_change makes counted puts done =
        let put = subst (λ (m : Mdb). HasPutFolder m.next_id dir place now r (catalog_nodes old) middle) ready.directory (puts r own) in
        let is : counts ≡ with_folder dir now (mdb_in old) = counted ∙ ap (with_folder dir now) ready.directory in
        let made = makes total now dir place.name r old new ready.sound ready.chosen.is (record {
          first = put.first;
          second = put.second;
          folder_came = put.folder_came;
          thread_came = put.thread_came;
          folder_set = valence_same (λ n. Swaps (Some r) (Some (folder_with n now r)) put.second (catalog_in new)) (subst (λ (l : Catalog). Swaps (Some r) (Some (folder_with (place.children + 1) now r)) put.second l) (sym done.content) put.folder_set);
          parent = ready.chosen.parent;
          new_value = put.new_value;
          thread_value = put.thread_value;
          folder_value = valence_same (λ n. IsDirRecordValue (with_children n now (dir_record_of r.1))) put.folder_value;
          tree = subst (λ (m : Mdb). HasTree m old new) is done.tree;
        }) in
        record {
          within = within;
          stepped = law (call.DirCreate dir place.name now) (with_folder dir now (mdb_in old)) total old new ready.sound made;
          zeros = tt;
          unwritten = λ other. refl;
          directory = made.edits.mdb ∙ ap (λ (m : Mdb). with_counts m (mdb_in old)) (sym is);
          reply = folder_answered (volume_in old) dir now place.name _ ready.chosen.is ∙ ap (λ (m : Mdb). success (answer.Id m.next_id)) (sym ready.directory);
        }
