-- The items in a folder of a host.
use Rattle.std.specs.Prelude.{◌≡◌, ℕ, List, [], map, slice_get, Option, Some, None, option_map, option_and_then, unwrap_or}
use Rattle.std.specs.List.Sorted.{IsPermutation, IsSorted}
use Rattle.std.specs.declared.cmp.Ordering.{Ordering}
use Rattle.hfs_put_plan.specs.Entries.{entry_cmp, items_from}
use Rattle.hfs_put_plan.specs.declared.entries.Entry.{Entry}
use Rattle.hfs_put_plan.specs.declared.entries.FolderItem.{FolderItem}
use Rattle.hfs_put_sources.specs.declared.entry.Look.{Look}
use Rattle.hfs_put_sources.specs.declared.plan.PutOptions.{PutOptions}
use Rattle.hfs_put_sources.specs.Items.{PlannedItem, Told, planned_item}
use Rattle.hfs_put_sources.specs.Paths.{behind_mark, double_path, entry_path}
use Rattle.hfs_put_sources.specs.Plans.{plan_at}
use Rattle.hfs_put_sources.specs.Trees.{Listed, Tree}

-- ---- their order

abbrev pub by_name : Listed → Listed → Ordering
by_name a b = entry_cmp a.name b.name

-- the same entries in this order
pub record AreInOrder (entries ordered : List Listed) : Type 0 where
  pub same : IsPermutation entries ordered
  pub order : IsSorted by_name ordered

-- both have the same names, one after the other
abbrev pub AreNamed : List Listed → List Entry → Type 0
AreNamed entries named = map (λ (entry : Entry). entry.name.now) named ≡ map (λ (entry : Listed). entry.name) entries

-- the items that entries of these names make
pub record MakesItems (entries : List Listed) (items : List FolderItem) : Type 0 where
  pub named : List Entry
  pub names : AreNamed entries named
  pub items_are : items ≡ items_from 0 named

-- ---- one of them

abbrev pub entry_at : List Listed → Option ℕ → Option Listed
entry_at entries place = option_and_then (slice_get entries) place

abbrev pub look_of : List Listed → Option ℕ → Option Look
look_of entries place = option_map (λ (entry : Listed). entry.look) (entry_at entries place)

abbrev pub name_of : Option Listed → List ℕ
name_of (Some entry) = entry.name
name_of None = []

-- the name of its own entry, or else, of the one that belongs to it, what follows `._`
abbrev pub item_name_by : Option Listed → List ℕ → List ℕ
item_name_by (Some own) double = own.name
item_name_by None double = unwrap_or (behind_mark double) []

abbrev pub item_name : List Listed → FolderItem → List ℕ
item_name entries item = item_name_by (entry_at entries item.own) (name_of (entry_at entries item.double))

-- the item of a name in a folder
abbrev pub named_item : Tree → Told → PutOptions → List ℕ → Option ℕ → List ℕ → Option Look → Option Look → PlannedItem
named_item host told how folder parent name own double =
    planned_item (entry_path folder name) (double_path folder name) parent
    (plan_at host how (told (entry_path folder name)) own double name (entry_path folder name) (double_path folder name))

abbrev pub item_in : Tree → Told → PutOptions → List ℕ → Option ℕ → List Listed → FolderItem → PlannedItem
item_in host told how folder parent entries item =
    named_item host told how folder parent (item_name entries item) (look_of entries item.own) (look_of entries item.double)

-- ---- all of them

-- the items of a folder, whose place in the list is given: of its entries in order
pub record AreItemsIn (host : Tree) (told : Told) (how : PutOptions) (folder : List ℕ) (parent : Option ℕ) (items : List PlannedItem) : Type 0 where
  pub entries : List Listed
  pub order : AreInOrder (host.entries folder) entries
  pub places : List FolderItem
  pub made : MakesItems entries places
  pub items_are : items ≡ map (item_in host told how folder parent entries) places
