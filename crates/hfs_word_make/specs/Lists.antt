-- The list of what is put on a new volume.
use Rattle.std.specs.Prelude.{ℕ, Bool, true, false, ◌&&◌, not, List, [], ◌∷◌, Option, Some, None}
use Rattle.hfs_put_plan.specs.declared.entries.EntryKind.{EntryKind}
use Rattle.hfs_put_plan.specs.declared.entries.EntryKind.TheVariants.{File, Folder, Other}
use Rattle.hfs_put_sources.specs.Items.{PlannedItem, Told}
use Rattle.hfs_put_sources.specs.Sources.{IsFolderListing, IsListing, is_bag}
use Rattle.hfs_put_sources.specs.Trees.{Tree}
use Rattle.hfs_put_sources.specs.declared.entry.Look.{Look}
use Rattle.hfs_put_sources.specs.declared.plan.PutOptions.{PutOptions}

abbrev pub is_folder_kind : EntryKind → Bool
is_folder_kind Folder = true
is_folder_kind (File len) = false
is_folder_kind Other = false

-- a folder, and no bag
abbrev pub is_plain : Tree → List ℕ → Look → Bool
is_plain host source look = is_folder_kind look.kind && not (is_bag host source look)

-- by what the source leads to
abbrev pub is_plain_folder : Option Look → Tree → List ℕ → Bool
is_plain_folder (Some look) host source = is_plain host source look
is_plain_folder None host source = false

-- of such a folder what lies in it, and else the source itself
abbrev pub IsListOf : Bool → Tree → Told → PutOptions → List ℕ → List PlannedItem → Type 0
IsListOf true host told how source items = IsFolderListing host told how source items
IsListOf false host told how source items = IsListing host told how (source ∷ []) items

-- of one source so, and of several as they are
abbrev pub IsNewList : Tree → Told → PutOptions → List (List ℕ) → List PlannedItem → Type 0
IsNewList host told how [] items = IsListing host told how [] items
IsNewList host told how (source ∷ []) items = IsListOf (is_plain_folder (host.target source) host source) host told how source items
IsNewList host told how (source ∷ other ∷ more) items = IsListing host told how (source ∷ other ∷ more) items
