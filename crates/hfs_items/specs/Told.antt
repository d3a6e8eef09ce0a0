-- What the calls that read answer, by the records of a catalog.
use Rattle.std.specs.Prelude.{ℕ, ℤ, ◌-◌, Bool, false, not, is_some, ◌==◌, if◌then◌else◌, List, ◌++◌, map, slice_get, Option, Some, None, Result, Ok, Err}
use Rattle.std.specs.Option.{option_map, option_map_or, option_and_then, ok_or}
use Rattle.hfs_fields.specs.Names.{is_item_name}
use Rattle.hfs_fields.specs.Records.{is_dir, is_bit_set, file_record_of}
use Rattle.hfs_fields.specs.declared.key.CatKey.{CatKey}
use Rattle.hfs_fields.specs.declared.dir_record.DirRecord.{DirRecord}
use Rattle.hfs_fields.specs.declared.file_record.FileRecord.{FileRecord}
use Rattle.hfs_btree.specs.Tree.{Store}
use Rattle.hfs_model.specs.declared.codes.TheConstants.{BAD_NAME, NOT_FOUND, PARAMETER, NOT_A_FOLDER, FILE_ID_NOT_FOUND, NOT_A_FILE}
use Rattle.hfs_model.specs.declared.call.Fork.{Fork}
use Rattle.hfs_model.specs.declared.call.Fork.TheVariants.{DataFork, ResFork}
use Rattle.hfs_model.specs.declared.reply.Info.{Info}
use Rattle.hfs_model.specs.declared.reply.ItemKind.TheVariants as item_kind
use Rattle.hfs_model.specs.declared.reply.Value.TheVariants as value
use Rattle.hfs_model.specs.declared.reply.Reply.{Reply}
use Rattle.hfs_model.specs.Replies.{refusal, success}
use Rattle.hfs_catalog.specs.declared.item.ItemRecord.{ItemRecord}
use Rattle.hfs_catalog.specs.declared.item.ItemRecord.TheVariants.{Folder, File}
use Rattle.hfs_catalog.specs.declared.item.CatalogItem.{CatalogItem}
use Rattle.hfs_catalog.specs.Records.{Record, Catalog, item_with, has_thread}
use Rattle.hfs_catalog.specs.Sound.{IsSoundCatalog}
use Rattle.hfs_catalog.specs.Lookups.{catalog_item, child_named, children_of}
use Rattle.hfs_catalog.specs.Tree.{IsCatalogTree, catalog_of}

-- the nodes are those of a sound catalog
pub record IsCatalog (nodes : Store) : Type 0 where
  pub tree : IsCatalogTree nodes
  pub next : ℕ
  pub catalog : IsSoundCatalog next (catalog_of nodes)

-- ---- what is said about an item

unfoldable pub folder_info : CatKey → DirRecord → Info
folder_info key r = record {
  id = r.id;
  parent = key.parent;
  name = key.name;
  kind = item_kind.Folder;
  created = r.created;
  modified = r.modified;
  backup = r.backup;
  finder = r.finder_info ++ r.extended_finder_info;
  locked = false;
  has_id = false;
  valence = r.valence;
  data_len = 0;
  res_len = 0;
}

-- the lengths are those that the record has; whether the file has a thread is known by the thread's record
unfoldable pub file_info : Bool → CatKey → FileRecord → Info
file_info has_thread key r = record {
  id = r.id;
  parent = key.parent;
  name = key.name;
  kind = item_kind.File;
  created = r.created;
  modified = r.modified;
  backup = r.backup;
  finder = r.finder_info ++ r.extended_finder_info;
  locked = is_bit_set 0 r.flags.0;
  has_id = has_thread;
  valence = 0;
  data_len = r.«data».length;
  res_len = r.resource.length;
}

abbrev pub body_info : Catalog → CatKey → ItemRecord → Info
body_info catalog key (Folder r) = folder_info key r
body_info catalog key (File r) = file_info (has_thread catalog r.id) key r

abbrev pub item_info : Catalog → CatalogItem → Info
item_info catalog item = body_info catalog item.key item.body

-- of a record
abbrev pub told : Catalog → Record → Info
told catalog r = item_info catalog (catalog_item r)

-- ---- the calls

abbrev pub one : Catalog → Record → Reply
one catalog r = success (value.One (told catalog r))

-- the folder of that ID
abbrev pub only_folder : Record → Option Record
only_folder r = if is_dir r.1 then Some r else None

abbrev pub folder_with : Catalog → ℕ → Option Record
folder_with catalog dir = option_and_then only_folder (item_with catalog dir)

abbrev pub is_folder : Catalog → ℕ → Bool
is_folder catalog dir = is_some (folder_with catalog dir)

-- the folder's item of that name: -120, -43
abbrev pub folder_child : Catalog → ℕ → List ℕ → Result CatalogItem ℤ
folder_child catalog dir name =
    if not (is_folder catalog dir) then Err NOT_A_FOLDER
    else ok_or (option_map catalog_item (child_named catalog dir name)) NOT_FOUND

abbrev pub dir_info : Catalog → ℕ → Reply
dir_info catalog dir = option_map_or (one catalog) (folder_with catalog dir) (refusal NOT_A_FOLDER)

abbrev pub cat_info : Catalog → ℕ → List ℕ → Reply
cat_info catalog dir name =
    if not (is_item_name name) then refusal BAD_NAME
    else if not (is_folder catalog dir) then refusal NOT_A_FOLDER
    else option_map_or (one catalog) (child_named catalog dir name) (refusal NOT_FOUND)

abbrev pub child_infos : Catalog → ℕ → List Info
child_infos catalog dir = map (told catalog) (children_of catalog dir)

abbrev pub indexed : Catalog → ℕ → ℕ → Reply
indexed catalog dir index =
    if index == 0 then refusal PARAMETER
    else if not (is_folder catalog dir) then refusal NOT_A_FOLDER
    else option_map_or (λ (info : Info). success (value.One info)) (slice_get (child_infos catalog dir) (index - 1)) (refusal NOT_FOUND)

-- ---- file IDs

-- where a file with a thread is: -1302 of a folder, -1300 of a file without one
abbrev pub placed : Catalog → Record → Reply
placed catalog r =
    if is_dir r.1 then refusal NOT_A_FILE
    else if has_thread catalog (file_record_of r.1).id then success (value.Place r.0.parent r.0.name)
    else refusal FILE_ID_NOT_FOUND

abbrev pub resolved : Catalog → ℕ → Reply
resolved catalog id = option_map_or (placed catalog) (item_with catalog id) (refusal FILE_ID_NOT_FOUND)

-- ---- forks

-- -43 of a folder, and where there is nothing
abbrev pub only_file : Option Record → Result FileRecord Reply
only_file None = Err (refusal NOT_FOUND)
only_file (Some r) = if is_dir r.1 then Err (refusal NOT_FOUND) else Ok (file_record_of r.1)

-- the record of the folder's file of that name: -37, -120, -43
abbrev pub file_named : Catalog → ℕ → List ℕ → Result FileRecord Reply
file_named catalog dir name =
    if not (is_item_name name) then Err (refusal BAD_NAME)
    else if not (is_folder catalog dir) then Err (refusal NOT_A_FOLDER)
    else only_file (child_named catalog dir name)

-- one of the two forks of a file
abbrev pub pick : Fork → List ℕ × List ℕ → List ℕ
pick DataFork forks = forks.0
pick ResFork forks = forks.1
