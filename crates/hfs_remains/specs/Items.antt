-- The items that remain: the folders and files among the records, each once.
use Rattle.std.specs.Prelude.{◌≡◌, ℕ, Bool, ◌&&◌, ◌||◌, ◌==◌, not, if◌then◌else◌, List, [], ◌∷◌, ◌++◌, length}
use Rattle.std.specs.List.{list_any}
use Rattle.std.specs.Str.{bytes_eq}
use Rattle.std.proofs.Common.{Vec, Global}
use Rattle.hfs_fields.specs.KeyForms.{cat_leaf_bytes}
use Rattle.hfs_fields.specs.Records.{is_item, item_id}
use Rattle.hfs_catalog.specs.Indexes.{has_number}
use Rattle.hfs_remains.specs.declared.catalog.FoundRecord.{FoundRecord}

-- the record of a folder or a file with a name
abbrev pub is_named_item : FoundRecord → Bool
is_named_item r = is_item r.entry.1 && not (length r.entry.0.name == 0)

-- a record as it is written: two with the same parent, name and body are written alike
abbrev pub written : FoundRecord → List ℕ
written r = cat_leaf_bytes r.entry.0 ++ r.entry.1

-- some item is written as these bytes
abbrev pub is_written : List FoundRecord → List ℕ → Bool
is_written items bytes = list_any (λ item. bytes_eq (written item) bytes) items

-- some item has this ID
abbrev pub has_item : List FoundRecord → ℕ → Bool
has_item items id = list_any (λ item. item_id item.entry.1 == id) items

-- a record is one more item after these: none of them is written alike, and where it is old none has its ID
unfoldable pub is_next_item : List FoundRecord → FoundRecord → Bool
is_next_item items r = is_named_item r && not (is_written items (written r) || (r.old && has_item items (item_id r.entry.1)))

abbrev pub with_next : List FoundRecord → FoundRecord → List FoundRecord
with_next items r = if is_next_item items r then items ++ r ∷ [] else items

-- the items among records, after these
abbrev pub items_behind : List FoundRecord → List FoundRecord → List FoundRecord
items_behind items [] = items
items_behind items (r ∷ rs) = items_behind (with_next items r) rs

-- the items among records, in order: an item's number is its place from 0 on
abbrev pub items_of : List FoundRecord → List FoundRecord
items_of records = items_behind [] records

-- ---- what is known of items

-- a row of bytes is one of these
abbrev pub has_row : List (Vec ℕ Global) → Vec ℕ Global → Bool
has_row rows row = list_any (λ other. bytes_eq row.items other.items) rows

-- rows of bytes, and IDs, are those of the items
pub record KnowItems (rows : List (Vec ℕ Global)) (ids : List ℕ) (items : List FoundRecord) : Type 0 where
  pub rows_are : (row : Vec ℕ Global) → has_row rows row ≡ is_written items row.items
  pub ids_are : (id : ℕ) → has_number ids id ≡ has_item items id

-- this row is one of them now, besides the old ones
abbrev pub AddsRow : Vec ℕ Global → List (Vec ℕ Global) → List (Vec ℕ Global) → Type 0
AddsRow row old new = (other : Vec ℕ Global) → has_row new other ≡ (has_row old other || bytes_eq row.items other.items)
