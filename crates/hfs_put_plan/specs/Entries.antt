-- Entries of a host's folder, in the order in which they are taken, and the items that they make.
use Rattle.std.specs.Prelude.{ℕ, ◌+◌, Bool, not, ◌&&◌, ◌==◌, nat_le, if◌then◌else◌, List, [], ◌∷◌, length, drop, slice_index, Option, Some, None, codes, bytes_eq}
use Rattle.std.specs.List.{cons_option}
use Rattle.std.specs.declared.cmp.Ordering.{Ordering}
use Rattle.std.specs.Ordering.{bool_cmp, nat_cmp, ordering_then}
use Rattle.std.specs.Cmp.Lexicographic.{slice_cmp}
use Rattle.std.specs.List.Sorted.{IsPermutation, IsSorted}
use Rattle.hfs_put_plan.specs.declared.entries.Entry.{Entry}
use Rattle.hfs_put_plan.specs.declared.entries.FolderItem.{FolderItem}

-- a name that begins with `._`: its entry belongs to the item whose name follows these
abbrev pub is_double : List ℕ → Bool
is_double name = nat_le 2 (length name) && (slice_index name 0 == 46) && (slice_index name 1 == 95)

-- the name of the item to which an entry belongs
abbrev pub item_of : List ℕ → List ℕ
item_of name = if is_double name then drop 2 name else name

-- what the system of a host keeps of a folder's looks
abbrev pub stays_behind : List ℕ → Bool
stays_behind name = bytes_eq (item_of name) (codes ".DS_Store")

-- the order of entries: by the bytes of their items' names, and of one item its own entry first
abbrev pub entry_cmp : List ℕ → List ℕ → Ordering
entry_cmp a b = ordering_then (slice_cmp nat_cmp (item_of a) (item_of b)) (bool_cmp (is_double a) (is_double b))

abbrev pub by_item : Entry → Entry → Ordering
by_item a b = entry_cmp a.name.now b.name.now

-- the same entries in this order
pub record AreInOrder (entries ordered : List Entry) : Type 0 where
  pub same : IsPermutation entries ordered
  pub order : IsSorted by_item ordered

-- the second of two entries belongs to the first
abbrev pub is_pair : List ℕ → List ℕ → Bool
is_pair first second = not (is_double first) && is_double second && bytes_eq (item_of second) first

-- ---- items, by the places of their entries

-- an entry by itself
abbrev pub alone : ℕ → List ℕ → Option FolderItem
alone place name =
    if stays_behind name then None else if is_double name then Some (record { own = None; double = Some place }) else Some (record { own = Some place; double = None })

-- an entry and the one after it
abbrev pub both : ℕ → List ℕ → Option FolderItem
both place name = if stays_behind name then None else Some (record { own = Some place; double = Some (place + 1) })

-- the items of entries that are from a place on
unfoldable pub items_from : ℕ → List Entry → List FolderItem
items_from place [] = []
items_from place (first ∷ []) = cons_option (alone place first.name.now) []
items_from place (first ∷ second ∷ rest) =
    if is_pair first.name.now second.name.now then cons_option (both place first.name.now) (items_from (place + 2) rest)
    else cons_option (alone place first.name.now) (items_from (place + 1) (second ∷ rest))
