-- The rows that a catalog's records give, and those of them that are left.
use Rattle.std.specs.Prelude.{◌≡◌, ℕ, zero, suc, ◌+◌, ◌-◌, ◌≤◌, ◌<◌, ◌==◌, if◌then◌else◌, IsTrue, List, [], ◌∷◌, ◌++◌, length, take, drop, filter, flat_map, slice_index_or, Option, Some, None}
use Rattle.hfs_fields.specs.Keys.{cat_cmp}
use Rattle.hfs_fields.specs.Records.{is_item, item_id}
use Rattle.hfs_btree.specs.Pairs.{Rises}
use Rattle.hfs_model.specs.declared.reply.Info.{Info}
use Rattle.hfs_catalog.specs.Records.{Record, Catalog}
use Rattle.hfs_catalog.specs.Lookups.{children_of}
use Rattle.hfs_items.specs.Told.{told}
use Rattle.hfs_items.specs.ToldRows.{ToldRow}
use Rattle.hfs_items.specs.declared.levels.Level.{Level}

-- ---- the rows of a catalog

-- what is said about a record's item, after the path of its folder
abbrev pub told_below : Catalog → List (List ℕ) → Record → ToldRow
told_below catalog above r = record { path = above ++ r.0.name ∷ []; info = told catalog r }

-- the rows of these items and of what lies in them, at most so many deep
abbrev pub rows_from : Catalog → ℕ → List (List ℕ) → Catalog → List ToldRow
rows_from catalog zero above items = []
rows_from catalog (suc depth) above items =
    flat_map (λ (r : Record). told_below catalog above r ∷ rows_from catalog depth (above ++ r.0.name ∷ []) (children_of catalog (item_id r.1))) items

-- all rows. The root is the one item under 1
abbrev pub catalog_rows : Catalog → List ToldRow
catalog_rows catalog = rows_from catalog (length catalog) [] (children_of catalog 1)

-- ---- the rows that are left

-- the first of these records, as long as they are under this ID
abbrev pub first_under : ℕ → Catalog → Catalog
first_under id [] = []
first_under id (r ∷ rest) = if r.0.parent == id then r ∷ first_under id rest else []

-- the items of a folder whose rows are left
abbrev pub level_items : Catalog → Level → Catalog
level_items catalog level = filter (λ (r : Record). is_item r.1) (first_under level.folder (drop level.next catalog))

-- the rows that these levels have still to give, of which so many lie above: those of the innermost are first
abbrev pub rows_left : Catalog → ℕ → List (List ℕ) → List Level → List ToldRow
rows_left catalog above path [] = []
rows_left catalog above path (level ∷ levels) =
    rows_left catalog (suc above) path levels ++ rows_from catalog (length catalog - above) (take above path) (level_items catalog level)

-- ---- what is seen of an inventory

-- the path of the row that was last given, and the rows that are left
pub record Going : Type 0 where
  pub path : List (List ℕ)
  pub left : List ToldRow

abbrev pub going : Catalog → List (List ℕ) → List Level → Going
going catalog path levels = record { path = path; left = rows_left catalog 0 path levels }

-- the records are in the order of their keys, and each level but the first has its folder's name in the path
pub record CanGoOn (catalog : Catalog) (path : List (List ℕ)) (levels : List Level) : Type 0 where
  pub rises : Rises cat_cmp catalog
  pub named : length levels ≤ length path + 1

-- what is said about the next row's item, whose path is the new one; or nothing where no row is left
abbrev pub GivesRow : Going → Going → Option Info → Type 0
GivesRow old new None = (old.left ≡ []) × (new.left ≡ [])
GivesRow old new (Some info) = old.left ≡ record { path = new.path; info = info } ∷ new.left

-- ---- words of the parts

-- the place is that of the first item of a level, or there is none
pub record IsFirstItem (catalog : Catalog) (level : Level) (place : ℕ) : Type 0 where
  pub within : place < length catalog
  pub item : (none : Record) → IsTrue (is_item (slice_index_or catalog place none).1)
  pub items : (none : Record) → level_items catalog level ≡ slice_index_or catalog place none ∷ level_items catalog (record level { next = place + 1 })

abbrev pub FindsItem : Catalog → Level → Option ℕ → Type 0
FindsItem catalog level None = level_items catalog level ≡ []
FindsItem catalog level (Some place) = IsFirstItem catalog level place

-- the rows of these levels, whatever the path, begin with that of the record at this place, followed by those of what lies in it
pub record BeginsAt (catalog : Catalog) (old new : List Level) (place : ℕ) : Type 0 where
  pub within : place < length catalog
  pub item : (none : Record) → IsTrue (is_item (slice_index_or catalog place none).1)
  pub some : 1 ≤ length new
  pub deep : length new ≤ length catalog
  pub rows : (none : Record) (path : List (List ℕ)) → rows_left catalog 0 path old
      ≡ rows_from catalog (suc (length catalog - length new)) (take (length new - 1) path) (slice_index_or catalog place none ∷ []) ++ rows_left catalog 0 path new

abbrev pub FindsRow : Catalog → List Level → List Level → Option ℕ → Type 0
FindsRow catalog old new None = ((path : List (List ℕ)) → rows_left catalog 0 path old ≡ []) × (new ≡ [])
FindsRow catalog old new (Some place) = BeginsAt catalog old new place

-- the name of the item at this place was added to the path of its folder, and the level of what lies in it; this is said of it
abbrev pub HasEntered : Catalog → List (List ℕ) → List (List ℕ) → List Level → List Level → ℕ → Info → Type 0
HasEntered catalog old_path new_path old new place info =
    (none : Record) → rows_from catalog (suc (length catalog - length old)) (take (length old - 1) old_path) (slice_index_or catalog place none ∷ []) ++ rows_left catalog 0 old_path old
    ≡ record { path = new_path; info = info } ∷ rows_left catalog 0 new_path new
