-- What sources give: each is the path of a file, of a folder, or of a bag.
use Rattle.std.specs.Prelude.{◌≡◌, ℕ, Bool, true, false, ◌&&◌, List, [], ◌∷◌, ◌++◌, codes, Option, Some, None}
use Rattle.std.specs.Path.{path_file_name, path_with_file_name}
use Rattle.hfs_put_sources.specs.declared.entry.Look.{Look}
use Rattle.hfs_put_sources.specs.declared.plan.ItemPlan.{ItemPlan}
use Rattle.hfs_put_sources.specs.declared.plan.PutOptions.{PutOptions}
use Rattle.hfs_put_sources.specs.Folders.{AreItemsIn}
use Rattle.hfs_put_sources.specs.Items.{PlannedItem, Told, planned_item}
use Rattle.hfs_put_sources.specs.Paths.{behind_mark, entry_path}
use Rattle.hfs_put_sources.specs.Plans.{is_file, is_folder, plain_plan, plan_at}
use Rattle.hfs_put_sources.specs.Trees.{Tree}
use Rattle.hfs_put_sources.specs.Walks.{IsWalk, with_twins}

-- the path of what belongs by its name to what has this path and name
unfoldable pub beside : List ℕ → List ℕ → List ℕ
beside source name = path_with_file_name source (codes "._" ++ name)

-- by its name: `._X` is what belongs to X
abbrev pub marked_plan : Option (List ℕ) → Tree → Told → PutOptions → List ℕ → Look → List ℕ → ItemPlan
marked_plan (Some own) host told how source look name = plan_at host how (told source) None (Some look) own source source
marked_plan None host told how source look name =
    plan_at host how (told source) (Some look) (host.look (beside source name)) name source (beside source name)

abbrev pub named_plan : Tree → Told → PutOptions → List ℕ → Look → List ℕ → ItemPlan
named_plan host told how source look name = marked_plan (behind_mark name) host told how source look name

-- of what has no name
abbrev pub nameless : ItemPlan → ItemPlan
nameless plan = record plan { name = None; found = record plan.found { is_named = false } }

-- `.`, `..` and `/` have none
abbrev pub source_plan : Tree → Told → PutOptions → List ℕ → Look → Option (List ℕ) → ItemPlan
source_plan host told how source look (Some name) = named_plan host told how source look name
source_plan host told how source look None = nameless (plain_plan how (told source) (Some look) None [] None)

-- the path of what belongs to a source by its name: `._X` is that itself
abbrev pub marked_double : Option (List ℕ) → List ℕ → List ℕ → List ℕ
marked_double (Some own) source name = source
marked_double None source name = beside source name

abbrev pub source_double : List ℕ → Option (List ℕ) → List ℕ
source_double source (Some name) = marked_double (behind_mark name) source name
source_double source None = source

abbrev pub source_item : Tree → Told → PutOptions → List ℕ → Look → PlannedItem
source_item host told how source look =
    planned_item source (source_double source (path_file_name source)) None (source_plan host told how source look (path_file_name source))

-- a folder with `bagit.txt` and `data`
abbrev pub is_bag : Tree → List ℕ → Look → Bool
is_bag host source look =
    is_folder (Some look) && is_file (host.look (entry_path source (codes "bagit.txt"))) && is_folder (host.look (entry_path source (codes "data")))

abbrev pub GivesBy : Bool → Tree → Told → PutOptions → List ℕ → Look → List PlannedItem → Type 0
GivesBy true host told how source look items = AreItemsIn host told how (entry_path source (codes "data")) None items
GivesBy false host told how source look items = items ≡ source_item host told how source look ∷ []

-- of a bag what lies in `data`, and else one item, where the source leads to anything
abbrev pub GivesAt : Option Look → Tree → Told → PutOptions → List ℕ → List PlannedItem → Type 0
GivesAt (Some look) host told how source items = GivesBy (is_bag host source look) host told how source look items
GivesAt None host told how source items = ⊥

abbrev pub Gives : Tree → Told → PutOptions → List ℕ → List PlannedItem → Type 0
Gives host told how source items = GivesAt (host.target source) host told how source items

-- what all sources give, one after the other
abbrev pub GiveAll : Tree → Told → PutOptions → List (List ℕ) → List PlannedItem → Type 0
GiveAll host told how [] items = items ≡ []
GiveAll host told how (source ∷ sources) items =
    (first : List PlannedItem) × (others : List PlannedItem) × Gives host told how source first × GiveAll host told how sources others
    × (items ≡ first ++ others)

-- the whole list of items
pub record IsListing (host : Tree) (told : Told) (how : PutOptions) (sources : List (List ℕ)) (items : List PlannedItem) : Type 0 where
  pub top : List PlannedItem
  pub given : GiveAll host told how sources top
  pub walked : IsWalk host told how 0 (with_twins top) items

-- the whole list of what lies in a folder
pub record IsFolderListing (host : Tree) (told : Told) (how : PutOptions) (path : List ℕ) (items : List PlannedItem) : Type 0 where
  pub top : List PlannedItem
  pub inside : AreItemsIn host told how path None top
  pub walked : IsWalk host told how 0 (with_twins top) items
