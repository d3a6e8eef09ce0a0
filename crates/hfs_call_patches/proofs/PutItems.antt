-- A folder's record with one more child, and then a new item's that came into the catalog.
use Rattle.std.proofs.Common.{◌≡◌, ℕ, ◌+◌, true, [], ◌∷◌, refl, sym, ◌∙◌, ap, subst, Option, Some, None}
use Rattle.std.specs.Option.{option_map}
use Rattle.hfs_fields.specs.declared.key.CatKey.{CatKey}
use Rattle.hfs_fields.specs.declared.dir_record.DirRecord.{DirRecord}
use Rattle.hfs_fields.specs.declared.file_record.FileRecord.{FileRecord}
use Rattle.hfs_fields.specs.Keys.{cat_cmp}
use Rattle.hfs_fields.specs.Records.{is_dir, new_dir, new_file}
use Rattle.hfs_fields.specs.RecordForms.{IsFileRecordValue}
use Rattle.hfs_btree.specs.Pairs.{lookup}
use Rattle.hfs_btree.specs.Tree.{Store}
use Rattle.hfs_fields.specs.Members.{In}
use Rattle.hfs_catalog.specs.Records.{Record}
use Rattle.hfs_catalog.specs.Tree.{IsCatalogTree, catalog_of}
use Rattle.hfs_record_edits.specs.Bodies.{IfBody}
use Rattle.hfs_record_edits.specs.Finds.{record_at}
use Rattle.hfs_record_edits.proofs.FindLemmas.{body_at, own_record, still_none, other_key}
use Rattle.hfs_record_edits.specs.ItemEdits.{HasValenceSet, ValenceSet, file_record, folder_record, folder_thread, FolderCame}
use Rattle.hfs_record_edits.proofs.KeepLemmas.{keeps_then, keeps_turned}
use Rattle.hfs_record_edits.specs.RecordEdits.{RecordCame}
use Rattle.hfs_record_edits.specs.Roots.{HasRoot}
use Rattle.hfs_record_edits.proofs.RootLemmas.{root_set}
use Rattle.hfs_record_edits.specs.Rooms.{IsInFile, HasRoom, HasRoomForTwo}
use Rattle.hfs_record_edits.proofs.CatalogRoomLemmas.{still_in_file, room_after, room_for_two_after, set_takes_none}
use Rattle.hfs_record_edits.specs.Swaps.{Swaps}
use Rattle.hfs_record_edits.proofs.SwapLemmas.{set_then_came}
use Rattle.hfs_record_edits.specs.Changes.{folder_with}
use Rattle.hfs_call_patches.specs.declared.new_items.NewPlace.{NewPlace}
use Rattle.hfs_call_patches.specs.NewItems.{IsOwnFolder, HasPutFile, HasPutFolder}

-- ---- a record that stands in a tree, by its key

module _ (nodes : Store) (tree : IsCatalogTree nodes) (key : CatKey) (r : Record) (there : In r (catalog_of nodes)) (own : r.0 ≡ key) where
  pub stands_at : record_at key (catalog_of nodes) ≡ Some r
  stands_at = subst (λ (k : CatKey). record_at k (catalog_of nodes) ≡ Some r) own (own_record (catalog_of nodes) r tree.ordered.rises there)

  pub body_of : lookup cat_cmp key (catalog_of nodes) ≡ Some r.1
  body_of = sym (body_at key (catalog_of nodes)) ∙ ap (λ (o : Option Record). option_map (λ (q : Record). q.1) o) stands_at

  pub folder_there : is_dir r.1 ≡ true → IfBody (λ body. is_dir body ≡ true) (lookup cat_cmp key (catalog_of nodes))
  folder_there folder = subst (IfBody (λ body. is_dir body ≡ true)) (sym body_of) folder

-- ---- the folder's record, with one more child

module _ (place : NewPlace) (now : ℕ) (old middle : Store) (r : Record) (tree : IsCatalogTree old) (own : IsOwnFolder place (catalog_of old) r)
    (set : HasValenceSet place.folder (place.children + 1) now old middle) where
  pub valence_done : ValenceSet place.folder (place.children + 1) now r.1 old middle
  valence_done = set r.1 (body_of old tree place.folder r own.there own.own_key)

  pub folder_swap : Swaps (Some r) (Some (folder_with (place.children + 1) now r)) (catalog_of old) (catalog_of middle)
  folder_swap =
      subst (λ (key : CatKey). Swaps (Some r) (Some (key, (folder_with (place.children + 1) now r).1)) (catalog_of old) (catalog_of middle)) (sym own.own_key)
      (subst (λ (o : Option Record). Swaps o (Some (place.folder, (folder_with (place.children + 1) now r).1)) (catalog_of old) (catalog_of middle))
      (stands_at old tree place.folder r own.there own.own_key) valence_done.set.swap)

  -- the root stands where it stood, and maybe is that folder
  pub root_then : HasRoot (catalog_of old) → HasRoot (catalog_of middle)
  root_then has = root_set r (folder_with (place.children + 1) now r) (catalog_of old) (catalog_of middle) folder_swap refl has

  -- what no record had for a key none has
  pub absent_then : (key : CatKey) → lookup cat_cmp key (catalog_of old) ≡ None → lookup cat_cmp key (catalog_of middle) ≡ None
  absent_then key none =
      still_none key (Some r) (Some (folder_with (place.children + 1) now r)) (catalog_of old) (catalog_of middle) folder_swap (other_key key (catalog_of old) r none own.there, tt) none

  pub in_file_then : IsInFile old → IsInFile middle
  in_file_then inside = still_in_file (place.folder ∷ []) old middle valence_done.set.keeps inside

  pub room_then : HasRoom old → HasRoom middle
  room_then room = room_after old middle room (set_takes_none _ old middle valence_done.set)

  pub room_for_two_then : HasRoomForTwo old → HasRoomForTwo middle
  room_for_two_then room = room_for_two_after old middle room (set_takes_none _ old middle valence_done.set)

  -- ---- a file

  pub file_put : (id dir : ℕ) (file : FileRecord) (new : Store) → file ≡ new_file id now → RecordCame (file_record dir place.name file) middle new → IsFileRecordValue file
      → HasPutFile id dir place now r old new
  file_put id dir file new is came value =
      let came_here : RecordCame (file_record dir place.name (new_file id now)) middle new = subst (λ (f : FileRecord). RecordCame (file_record dir place.name f) middle new) is came in
      let turned = set_then_came r (folder_with (place.children + 1) now r) (file_record dir place.name (new_file id now)) (catalog_of old) (catalog_of middle) (catalog_of new) folder_swap came_here.swap in
      record {
        keeps = keeps_turned ((file_record dir place.name (new_file id now)).0 ∷ []) (place.folder ∷ []) old new (keeps_then _ _ old middle new valence_done.set.keeps came_here.keeps);
        first = turned.0;
        file_came = turned.1;
        folder_set = turned.2;
        file_value = subst IsFileRecordValue is value;
        folder_value = valence_done.value;
      }

  -- ---- a folder

  pub folder_put : (id dir : ℕ) (folder : DirRecord) (new : Store) → folder ≡ new_dir id now → FolderCame dir place.name folder middle new
      → HasPutFolder id dir place now r old new
  unfolding new_dir
  folder_put id dir folder new is came =
      let came_here : FolderCame dir place.name (new_dir id now) middle new = subst (λ (d : DirRecord). FolderCame dir place.name d middle new) is came in
      let record_turned = set_then_came r (folder_with (place.children + 1) now r) (folder_record dir place.name (new_dir id now)) (catalog_of old) (catalog_of middle) came_here.between folder_swap came_here.item_came in
      let thread_turned = set_then_came r (folder_with (place.children + 1) now r) (folder_thread dir place.name (new_dir id now)) record_turned.0 came_here.between (catalog_of new) record_turned.2 came_here.thread_came in
      record {
        keeps =
            keeps_turned ((folder_thread dir place.name (new_dir id now)).0 ∷ (folder_record dir place.name (new_dir id now)).0 ∷ []) (place.folder ∷ []) old new
            (keeps_then _ _ old middle new valence_done.set.keeps came_here.keeps);
        first = record_turned.0;
        second = thread_turned.0;
        folder_came = record_turned.1;
        thread_came = thread_turned.1;
        folder_set = thread_turned.2;
        new_value = came_here.value;
        thread_value = came_here.thread_value;
        folder_value = valence_done.value;
      }

-- the new record has the ID
pub own_id : (id now : ℕ) (folder : DirRecord) → folder ≡ new_dir id now → folder.id ≡ id
unfolding new_dir
own_id id now folder is = ap (λ (d : DirRecord). d.id) is
