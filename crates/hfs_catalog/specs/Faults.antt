-- The first place in a catalog at which a check fails: the number of a leaf record, from 0 on, or the number of leaf
-- records where what fails is none of them.
use Rattle.std.specs.Prelude.{ℕ, Bool, false, not, ◌&&◌, ◌||◌, ◌==◌, nat_le, nat_lt, if◌then◌else◌, List, [], length, Option, Some, None}
use Rattle.std.specs.Bool.{beq}
use Rattle.std.specs.List.{list_all, list_any}
use Rattle.std.specs.Option.{option_or, option_map_or}
use Rattle.std.specs.Ordering.{is_lt}
use Rattle.hfs_fields.specs.declared.mdb.Mdb.{Mdb}
use Rattle.hfs_fields.specs.declared.key.CatKey.{CatKey}
use Rattle.hfs_fields.specs.Names.{is_item_name}
use Rattle.hfs_fields.specs.Order.{same_name}
use Rattle.hfs_fields.specs.Keys.{cat_cmp}
use Rattle.hfs_fields.specs.Records.{is_dir, is_item, is_thread, is_dir_thread, begins_thread, item_id, dir_record_of, thread_record_of}
use Rattle.hfs_fields.specs.First.{first_failing}
use Rattle.hfs_catalog.specs.Records.{Record, Catalog, has_id, item_with, is_folder_id, has_thread, valence_of}
use Rattle.hfs_catalog.specs.Parents.{reaches_root}
use Rattle.hfs_catalog.specs.Sound.{counts_of}
use Rattle.hfs_catalog.specs.Indexes.{Numbered, count_of, item_place, is_place}

-- the first holds only where the second does
abbrev pub implies : Bool → Bool → Bool
implies a b = not a || b

-- a place, unless the test holds
abbrev pub unless : Bool → ℕ → Option ℕ
unless holds place = if holds then None else Some place

-- ---- records

unfoldable pub is_record_right : Record → Bool
is_record_right r = (is_item r.1 && nat_le 1 (length r.0.name)) || (is_thread r.1 && (length r.0.name == 0))

unfoldable pub record_fault : Catalog → Option ℕ
record_fault catalog = first_failing (λ _ r. is_record_right r) [] catalog

-- ---- IDs: of two with one ID, the later fails

unfoldable pub is_id_right : ℕ → Record → Bool
is_id_right next r =
    ((item_id r.1 == 2) && is_dir r.1 && (r.0.parent == 1)) || (nat_le 16 (item_id r.1) && nat_lt (item_id r.1) next && not (r.0.parent == 1))

unfoldable pub is_id_new : Catalog → Record → Bool
is_id_new before r = list_all (λ earlier. not (has_id (item_id r.1) earlier)) before

unfoldable pub is_item_id_right : ℕ → Catalog → Record → Bool
is_item_id_right next before r = implies (is_item r.1) (is_id_right next r && is_id_new before r)

unfoldable pub id_fault : ℕ → Catalog → Option ℕ
id_fault next catalog = option_or (first_failing (is_item_id_right next) [] catalog) (unless (list_any (has_id 2) catalog) (length catalog))

-- ---- names

unfoldable pub is_name_right : Record → Bool
is_name_right r =
    implies (is_item r.1) (is_item_name r.0.name) && implies (is_thread r.1) (begins_thread r.1 && is_item_name (thread_record_of r.1).name)

unfoldable pub is_index_key_name : CatKey → Bool
is_index_key_name key = (length key.name == 0) || is_item_name key.name

-- with the keys of all index nodes
unfoldable pub name_fault : List CatKey → Catalog → Option ℕ
name_fault index_keys catalog = option_or (first_failing (λ _ r. is_name_right r) [] catalog) (unless (list_all is_index_key_name index_keys) (length catalog))

-- ---- order, parents, threads: of two keys that don't rise, the later fails

unfoldable pub is_above : Catalog → Record → Bool
is_above before r = list_all (λ earlier. is_lt (cat_cmp earlier.0 r.0)) before

-- the chain of parents is followed no further than there are records
unfoldable pub is_parent_right : Catalog → Record → Bool
is_parent_right catalog r =
    (item_id r.1 == 2) || (is_folder_id catalog r.0.parent && reaches_root catalog (length catalog) (item_id r.1))

unfoldable pub leads_to : Record → Record → Bool
leads_to thread item =
    beq (is_dir_thread thread.1) (is_dir item.1) && ((thread_record_of thread.1).parent == item.0.parent)
    && same_name item.0.name (thread_record_of thread.1).name

unfoldable pub is_thread_right : Catalog → Record → Bool
is_thread_right catalog r = option_map_or (leads_to r) (item_with catalog r.0.parent) false

unfoldable pub is_place_right : Catalog → Catalog → Record → Bool
is_place_right catalog before r =
    is_above before r && implies (is_item r.1) (is_parent_right catalog r) && implies (is_dir r.1) (has_thread catalog (item_id r.1))
    && implies (is_thread r.1) (is_thread_right catalog r)

-- where it is known whether the keys of the index nodes are in order
unfoldable pub place_fault : Bool → Catalog → Option ℕ
place_fault in_order catalog = option_or (first_failing (is_place_right catalog) [] catalog) (unless in_order (length catalog))

-- ---- valences

unfoldable pub is_valence_right : Catalog → Record → Bool
is_valence_right catalog r =
    implies (is_dir r.1) (((dir_record_of r.1).valence == valence_of catalog (item_id r.1)) && nat_le (dir_record_of r.1).valence 65535)

unfoldable pub valence_fault : Catalog → Option ℕ
valence_fault catalog = first_failing (λ _ r. is_valence_right catalog r) [] catalog

-- ---- counts: the number of the first that is wrong, from 1 on

unfoldable pub count_fault : Mdb → Catalog → Option ℕ
count_fault mdb catalog =
    option_or (unless (mdb.root_files == (counts_of catalog).root_files) 1)
    (option_or (unless (mdb.root_folders == (counts_of catalog).root_folders) 2)
    (option_or (unless (mdb.files == (counts_of catalog).files) 3) (unless (mdb.folders == (counts_of catalog).folders) 4)))

-- ---- the parts of the check of parents and threads

-- the first item whose parent or chain of parents is wrong
abbrev pub parent_fault : Catalog → Option ℕ
parent_fault catalog = first_failing (λ _ r. implies (is_item r.1) (is_parent_right catalog r)) [] catalog

-- the first folder without a thread
abbrev pub unthreaded : Catalog → Option ℕ
unthreaded catalog = first_failing (λ _ r. implies (is_dir r.1) (has_thread catalog (item_id r.1))) [] catalog

-- the first thread that does not lead to its item
abbrev pub thread_fault : Catalog → Option ℕ
thread_fault catalog = first_failing (λ _ r. implies (is_thread r.1) (is_thread_right catalog r)) [] catalog

-- whether record i, where it is an item's, has an ID that is right for it and that no record before has
abbrev pub is_id_right_at : ℕ → Catalog → ℕ → Record → Bool
is_id_right_at next catalog i r = implies (is_item r.1) (is_id_right next r && is_place (item_place catalog (item_id r.1)) i)

-- the parent and the chain of parents are right, if the record is an item's
abbrev pub is_item_parent_right : Catalog → Record → Bool
is_item_parent_right catalog r = implies (is_item r.1) (is_parent_right catalog r)

-- the first record whose place, parent or thread is wrong
abbrev pub first_misplaced : Catalog → Option ℕ
first_misplaced catalog = first_failing (is_place_right catalog) [] catalog

-- where these are the counts of children, the record, if it is a folder's, has the count of its own as its valence
abbrev pub is_valence_counted : Numbered → Record → Bool
is_valence_counted counts r =
    implies (is_dir r.1) (((dir_record_of r.1).valence == count_of counts (item_id r.1)) && nat_le (dir_record_of r.1).valence 65535)
