-- What is made of an item by its kind.
use Rattle.std.proofs.Common.{◌≡◌, ◌⊎◌, inl, inr, Bool, true, false, if◌then◌else◌, refl, sym}
use Rattle.std.proofs.lemmas.Bool.{true≢false}
use Rattle.hfs_bag.specs.declared.item.BagKind.{BagKind}
use Rattle.hfs_bag.specs.declared.item.BagKind.TheVariants as bag
use Rattle.hfs_bag.specs.Items.{BagItem, entries_of_kind, folder_entry}
use Rattle.hfs_model.specs.declared.reply.ItemKind.TheVariants as item
use Rattle.hfs_model.proofs.Members.{In}
use Rattle.hfs_word_take.specs.Items.{bag_kind}
use Rattle.hfs_bag.specs.Entries.{ShelfEntry, folder}
use Rattle.hfs_rescue_items.specs.Plan.{makes_folder}
use Rattle.hfs_rescue_items.specs.Sources.{is_alone}

-- an item of another kind
abbrev pub with-kind : BagKind → BagItem → BagItem
with-kind kind it = record { above = it.above; name = it.name; kind = kind; finder = it.finder; modified = it.modified; data_fork = it.data_fork; resource_fork = it.resource_fork }

abbrev pub own-kind : Bool → Bool → BagKind
own-kind dir made = if dir then (if made then bag.DoubleAlone else bag.Folder) else bag.File

pub not-alone : (dir made : Bool) → is_alone (own-kind dir made) ≡ false
not-alone true true = refl
not-alone true false = refl
not-alone false made = refl

abbrev pub whole-kind : Bool → BagKind
whole-kind dir = bag_kind (if dir then item.Folder else item.File)

-- what is made of an item is what it has
pub to-whole : (dir made : Bool) (it : BagItem) (e : ShelfEntry) → In e (entries_of_kind (own-kind dir made) it) → In e (entries_of_kind (whole-kind dir) it)
to-whole true true it e (inl same) = inl same
to-whole true true it e (inr none) = absurd none
to-whole true false it e there = there
to-whole false made it e there = there

-- of an item all is made but a folder that was made before
pub from-whole : (dir made : Bool) (it : BagItem) (e : ShelfEntry) → In e (entries_of_kind (whole-kind dir) it) → In e (entries_of_kind (own-kind dir made) it) ⊎ ((made ≡ true) × (folder_entry it ≡ e))
from-whole true true it e (inl same) = inl (inl same)
from-whole true true it e (inr (inl same)) = inr (refl, same)
from-whole true true it e (inr (inr none)) = absurd none
from-whole true false it e there = inl there
from-whole false made it e there = inl there

pub folder-in : (kind : BagKind) (it : BagItem) → makes_folder kind ≡ true → In (folder_entry it) (entries_of_kind kind it)
folder-in bag.Folder it makes = inr (inl refl)
folder-in bag.File it makes = absurd (true≢false (sym makes))
folder-in bag.FolderAlone it makes = inl refl
folder-in bag.DoubleAlone it makes = absurd (true≢false (sym makes))

pub folder-whole : (it : BagItem) → In (folder_entry it) (entries_of_kind (whole-kind true) it)
folder-whole it = inr (inl refl)
