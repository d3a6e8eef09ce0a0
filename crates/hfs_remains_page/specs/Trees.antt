-- The tree of a page: where each thing is that was found, below a folder or below what the page itself adds.
use Rattle.std.specs.Prelude.{ℕ, ◌+◌, Bool, ◌&&◌, not, ◌==◌, nat_lt, if◌then◌else◌, List, [], ◌∷◌, ◌++◌, codes, length, drop, Option, None, Some}
use Rattle.std.specs.Option.{unwrap_or}
use Rattle.hfs_catalog.specs.Indexes.{is_place}
use Rattle.hfs_page.specs.Bases.{begins_with}
use Rattle.hfs_remains_places.specs.declared.things.Thing.{Thing}
use Rattle.hfs_remains_places.specs.Folders.{thing_at}
use Rattle.hfs_remains_places.specs.Things.{folder_of}
use Rattle.hfs_remains_places.specs.Paths.{root_of}
use Rattle.hfs_rescue_items.specs.Found.{path_at}
use Rattle.hfs_remains_page.specs.declared.steps.Step.{Step}
use Rattle.hfs_remains_page.specs.Walks.{below, step_at, walk}

-- ---- the nodes of the tree: the things by their places, and after them what the page adds

-- the volume, in the place of a root that is lost
abbrev pub volume_node : List Thing → ℕ
volume_node things = length things

-- what holds the things that are lost
abbrev pub lost_node : List Thing → ℕ
lost_node things = length things + 1

-- what holds the old ones
abbrev pub old_node : List Thing → ℕ
old_node things = length things + 2

-- above the root there is nothing
abbrev pub no_node : List Thing → ℕ
no_node things = length things + 3

abbrev pub top_node : List Thing → ℕ
top_node things = unwrap_or (root_of things) (volume_node things)

-- ---- what each thing is below

-- a path without what old ones lie below
abbrev pub own_path : Bool → List ℕ → List ℕ
own_path old path = drop (if old then 5 else 0) path

-- by the paths of both, a thing lies in the folder at another place
unfoldable pub lies_in : List Thing → ℕ → ℕ → Bool
lies_in things i q =
    begins_with (own_path (thing_at things i).old (path_at things i)) (own_path (thing_at things q).old (path_at things q ++ codes "/"))

-- a thing that lies in no folder
abbrev pub apart : List Thing → ℕ → ℕ
apart things i = if (thing_at things i).old then old_node things else lost_node things

-- one that lies in a folder; an old one in a folder that isn't old is apart
abbrev pub up_in : List Thing → ℕ → ℕ → ℕ
up_in things i q =
    if lies_in things i q then (if (thing_at things i).old && not (thing_at things q).old then old_node things else q) else apart things i

-- one whose parent's number no folder has but the payload
abbrev pub up_top : List Thing → ℕ → ℕ
up_top things i = if ((thing_at things i).parent == 2) && not (thing_at things i).old then top_node things else apart things i

abbrev pub up_by : List Thing → ℕ → Option ℕ → ℕ
up_by things i None = up_top things i
up_by things i (Some q) = up_in things i q

-- what thing i is below
unfoldable pub up : List Thing → ℕ → ℕ
up things i = if is_place (root_of things) i then no_node things else up_by things i (folder_of things (thing_at things i).parent)

-- ---- the order of the tree

-- what is below a node
unfoldable pub inside : List Thing → ℕ → List ℕ
inside things node = if nat_lt node (length things + 3) then below (up things) (length things) node else []

-- a node that has none above it, and all that is below it
unfoldable pub walk_from : List Thing → ℕ → List Step
walk_from things node = walk (inside things) (length things + 3) (step_at (inside things) 0 node ∷ [])

-- nothing, where nothing is below it
abbrev pub walk_if : List Thing → ℕ → List Step
walk_if things node = if length (inside things node) == 0 then [] else walk_from things node

-- the root with what lies in it, what is lost, and what is old
unfoldable pub tree_order : List Thing → List Step
tree_order things = walk_from things (top_node things) ++ walk_if things (lost_node things) ++ walk_if things (old_node things)
