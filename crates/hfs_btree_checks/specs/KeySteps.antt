-- What the parts of the passes over a tree's keys promise.
use Rattle.std.specs.Prelude.{◌≡◌, ℕ, ◌<◌, Bool, true, if◌then◌else◌, List, [], ◌∷◌, ◌++◌, length, map, Option, Some, None}
use Rattle.std.specs.List.{flat_map, list_all}
use Rattle.std.proofs.Common.{Vec, Global}
use Rattle.hfs_btree.specs.declared.key.Key.{Ghosts}
use Rattle.hfs_btree.specs.Tree.{Store, records_in, children, reads_at, key_at}

-- a node of the file, whose records are those of a node so many levels above the leaves
pub record IsKeyNode {K : Type 0} (g : Ghosts K) (nodes : Store) (above n : ℕ) : Type 0 where
  pub within : n < length nodes
  pub whole : list_all (reads_at g above) (records_in nodes n) ≡ true

-- the first node of a level, so many levels above the leaves, with a key that the test refuses
abbrev pub level_key_fault : {K : Type 0} → Ghosts K → Store → (K → Bool) → ℕ → List ℕ → Option ℕ
level_key_fault g nodes test above [] = None
level_key_fault g nodes test above (n ∷ ns) =
    if list_all (λ entry. test (key_at g above entry)) (records_in nodes n) then level_key_fault g nodes test above ns else Some n

-- the test takes the key of each record, as of a node so many levels above the leaves
abbrev pub all_pass : {K : Type 0} → Ghosts K → (K → Bool) → ℕ → List (List ℕ) → Bool
all_pass g test above entries = list_all (λ entry. test (key_at g above entry)) entries

-- the answer is whether the test takes each key of node n, so many levels above the leaves
abbrev pub TellsPass : {K : Type 0} → Ghosts K → Store → (K → Bool) → ℕ → ℕ → Bool → Type 0
TellsPass g nodes test above n = λ pass. pass ≡ list_all (λ entry. test (key_at g above entry)) (records_in nodes n)

-- the keys of index node n are added
abbrev pub AddsKeys : {K : Type 0} → Ghosts K → Store → ℕ → Vec K Global → Vec K Global → Type 0
AddsKeys g nodes n old new = new.items ≡ old.items ++ map g.index_key (records_in nodes n)

-- the keys of a level of index nodes are added
abbrev pub AddsAllKeys : {K : Type 0} → Ghosts K → Store → List ℕ → Vec K Global → Vec K Global → Type 0
AddsAllKeys g nodes level old new = new.items ≡ old.items ++ flat_map (λ n. map g.index_key (records_in nodes n)) level

-- the children of index node n are added
abbrev pub AddsChildren : {K : Type 0} → Ghosts K → Store → ℕ → Vec ℕ Global → Vec ℕ Global → Type 0
AddsChildren g nodes n old new = new.items ≡ old.items ++ children g nodes n

-- the children of node n are added, if it is above the leaves
abbrev pub AddsBelow : {K : Type 0} → Ghosts K → Store → ℕ → ℕ → Vec ℕ Global → Vec ℕ Global → Type 0
AddsBelow g nodes above n old new = 0 < above → new.items ≡ old.items ++ children g nodes n

-- the level below one of index nodes: their children, in turn
abbrev pub IsNextLevel : {K : Type 0} → Ghosts K → Store → List ℕ → Vec ℕ Global → Type 0
IsNextLevel g nodes level = λ next. next.items ≡ flat_map (children g nodes) level

-- the level below one that is above the leaves
abbrev pub IsLevelBelow : {K : Type 0} → Ghosts K → Store → ℕ → List ℕ → Vec ℕ Global → Type 0
IsLevelBelow g nodes above level = λ next. 0 < above → next.items ≡ flat_map (children g nodes) level
