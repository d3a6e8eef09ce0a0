-- Files of a host that are as they were seen.
use Rattle.std.specs.Prelude.{◌≡◌, ◌⊎◌, ℕ, if◌then◌else◌, List, Option, Some, None, ⊤}
use Rattle.std.specs.List.{All}
use Rattle.hfs_put_sources.specs.Items.{PlannedItem}
use Rattle.hfs_put_sources.specs.Plans.{is_file}
use Rattle.hfs_put_sources.specs.Faults.{IsFaultOf}
use Rattle.hfs_put_sources.specs.Trees.{OfEachTree, Tree}
use Rattle.hfs_put_sources.specs.declared.fault.HostFault.{HostFault}
use Rattle.hfs_put_sources.specs.declared.entry.Look.{Look}

-- the path leads to what was seen: to a file as long as it was, and changed when that was
abbrev pub IsAsSeen : Tree → Option (List ℕ) → Option Look → Type 0
IsAsSeen host (Some path) (Some look) = host.target path ≡ Some look
IsAsSeen host (Some path) None = ⊤
IsAsSeen host None look = ⊤

-- what was seen of a file; folders are left out
abbrev pub seen_file : Option Look → Option Look
seen_file look = if is_file look then look else None

-- both files of an item are as they were seen: its own, and the one that belongs to it by its name
pub record IsUnchanged (host : Tree) (item : PlannedItem) : Type 0 where
  pub own : IsAsSeen host (Some item.path) (seen_file item.plan.own)
  pub double : IsAsSeen host item.double (seen_file item.plan.double)

-- the files of all items are
abbrev pub AreUnchanged : List PlannedItem → Tree → Type 0
AreUnchanged items host = All (IsUnchanged host) items

-- the fault is one that the tree may have; or in none of these trees it is so
abbrev pub IsFaultUnless : (HostFault → Type 0) → (Tree → Type 0) → (Tree → Type 0) → HostFault → Type 0
IsFaultUnless Fails Hosts Fact fault = IsFaultOf Fails fault ⊎ OfEachTree Hosts (λ host. ¬ (Fact host))
