-- The records of new items, and what Create and DirCreate have added.
use Rattle.std.proofs.Common.{◌≡◌, inl, ℕ, ◌+◌, ◌<◌, ◌≤◌, true, false, ◌&&◌, List, length, [], refl, sym, ◌∙◌, ap, Option, Some, None}
use Rattle.std.specs.Prelude.{nat_le}
use Rattle.std.specs.List.{list_all}
use Rattle.std.proofs.lemmas.Bool.{leb-true, true≢false, and_parts, or_left, or_right}
use Rattle.hfs_fields.specs.declared.dir_record.DirRecord.{DirRecord}
use Rattle.hfs_fields.specs.declared.file_record.FileRecord.{FileRecord}
use Rattle.hfs_fields.specs.Names.{is_name_character, is_item_name}
use Rattle.hfs_fields.specs.Records.{is_dir, is_file, dir_record_of, new_dir, new_file}
use Rattle.hfs_fields.specs.RecordForms.{IsDirRecordValue, IsFileRecordValue}
use Rattle.hfs_fields.proofs.RecordFormLemmas.{is_dir-written}
use Rattle.hfs_catalog.specs.Records.{Record, Catalog}
use Rattle.hfs_record_edits.specs.Swaps.{Swaps}
use Rattle.hfs_record_edits.specs.Changes.{IsFolderWith, with_children, folder_with}
use Rattle.hfs_record_edits.proofs.ChangesLaws.{IsItsThread, IsNewItem, HasAdded}
use Rattle.hfs_record_edits.specs.CreationLaws.{file_record_in, folder_record_in}
use Rattle.hfs_record_edits.proofs.Made.{file-no_dir, file-is, file-read, file_id, dir-read, dir_id, folder_alike, folder_valence}

-- an item's name has a character
pub named_long : (name : List ℕ) → is_item_name name ≡ true → 1 ≤ length name
named_long name is =
    let parts = and_parts (nat_le 1 (length name) && nat_le (length name) 31) (list_all is_name_character name) is in
    leb-true 1 (length name) (and_parts (nat_le 1 (length name)) (nat_le (length name) 31) parts.0).0

new_file_id : (id now : ℕ) → (new_file id now).id ≡ id
unfolding new_file
new_file_id id now = refl

new_dir_id : (id now : ℕ) → (new_dir id now).id ≡ id
unfolding new_dir
new_dir_id id now = refl

new_dir_empty : (id now : ℕ) → (new_dir id now).valence ≡ 0
unfolding new_dir
new_dir_empty id now = refl

module _ (next dir now : ℕ) (name : List ℕ) (named : is_item_name name ≡ true) where
  pub new_file_item : IsFileRecordValue (new_file next now) → IsNewItem next dir (file_record_in next dir name now) None
  new_file_item ok =
      let a : Record = file_record_in next dir name now in
      let none : is_dir a.1 ≡ false = file-no_dir (new_file next now) in
      let item = or_right (is_dir a.1) (is_file a.1) (file-is (new_file next now) ok) in
      record {
        item = item;
        id = file_id a.1 none ∙ ap (λ (f : FileRecord). f.id) (file-read (new_file next now) ok) ∙ new_file_id next now;
        parent = refl;
        record_form = inl (item, named_long name named);
        name = named;
        thread = tt;
        threaded = sym none;
        empty = λ d. absurd (true≢false (sym d ∙ none));
      }

  pub new_folder_item : (thread : Record) → IsDirRecordValue (new_dir next now) → IsItsThread next (folder_record_in next dir name now) thread
      → IsNewItem next dir (folder_record_in next dir name now) (Some thread)
  new_folder_item thread ok its =
      let a : Record = folder_record_in next dir name now in
      let is : is_dir a.1 ≡ true = is_dir-written (new_dir next now) ok in
      let item = or_left (is_dir a.1) (is_file a.1) is in
      record {
        item = item;
        id = dir_id a.1 is ∙ ap (λ (d : DirRecord). d.id) (dir-read (new_dir next now) ok) ∙ new_dir_id next now;
        parent = refl;
        record_form = inl (item, named_long name named);
        name = named;
        thread = its;
        threaded = sym is;
        empty = λ d. ap (λ (x : DirRecord). x.valence) (dir-read (new_dir next now) ok) ∙ new_dir_empty next now;
      }

-- a new item's record came, and its thread's if it has one, and then its folder's with one more child
pub has_added : (next dir now : ℕ) (item : Record) (thread : Option Record) (r : Record) (old first second new : Catalog)
    → Swaps None (Some item) old first → Swaps None thread first second → Swaps (Some r) (Some (folder_with ((dir_record_of r.1).valence + 1) now r)) second new
    → IsNewItem next dir item thread → (f : IsFolderWith old dir r) → IsDirRecordValue (with_children ((dir_record_of r.1).valence + 1) now (dir_record_of r.1)) → (dir_record_of r.1).valence < 65535
    → HasAdded next dir item thread r (folder_with ((dir_record_of r.1).valence + 1) now r) old new
has_added next dir now item thread r old first second new item_came thread_came folder_set made f ok room = record {
  first = first;
  second = second;
  item_came = item_came;
  thread_came = thread_came;
  folder_set = folder_set;
  made = made;
  edit = record { was = f.was; folder = f.folder; alike = folder_alike r ((dir_record_of r.1).valence + 1) now f.folder ok };
  one_more = folder_valence r ((dir_record_of r.1).valence + 1) now f.folder ok;
  room = room;
}

-- where nothing comes, nothing has changed
pub nothing_came : (catalog : Catalog) → Swaps None None catalog catalog
nothing_came catalog = record { before = []; behind = catalog; was = refl; is = refl }
