-- Which faults what remains gives as the source of a bag.
use Rattle.std.specs.Prelude.{◌≡◌, ◌⊎◌, ⊤, ℕ, ◌+◌, ◌-◌, ◌/◌, ◌^◌, ◌<◌, ◌≤◌, List, drop, length, slice_get, slice_index_or, take, Option, None, Some}
use Rattle.std.specs.Str.{IsUtf8}
use Rattle.hfs_bag.specs.declared.source.SourceFault.{SourceFault}
use Rattle.hfs_bag.specs.declared.source.SourceFault.TheVariants.{Memory}
use Rattle.hfs_bag.specs.declared.source.Stream.{Stream}
use Rattle.hfs_bag.specs.declared.source.Stream.TheVariants as stream
use Rattle.hfs_fields.specs.declared.mdb.Mdb.{Mdb}
use Rattle.hfs_remains.specs.Allocation.{start_of}
use Rattle.hfs_remains.specs.TreeFiles.{FileBlocks}
use Rattle.hfs_remains_forks.specs.declared.findings.FoundFork.{FoundFork}
use Rattle.hfs_rescue_items.specs.declared.found.Found.{Found}
use Rattle.hfs_rescue_items.specs.declared.plan.Planned.{Planned}
use Rattle.hfs_rescue_items.specs.declared.reading.Reading.{Reading}
use Rattle.hfs_rescue_items.specs.declared.reading.Reading.TheVariants as reading
use Rattle.hfs_rescue_items.specs.Found.{path_at}

-- there is none
abbrev pub Never : SourceFault → Type 0
Never fault = ⊥

-- memory was refused
abbrev pub WantsMemory : SourceFault → Type 0
WantsMemory fault = fault ≡ Memory

-- a part of a path is no text: it ends before it begins, or behind the path, or its bytes are none
abbrev pub IsNoText : List ℕ → ℕ → ℕ → Type 0
IsNoText path from to = (to < from) ⊎ ((length path < to) ⊎ (IsUtf8 (take (to - from) (drop from path)) → ⊥))

-- memory was refused for a part of a path, or it is no text
abbrev pub IsUntold : List ℕ → ℕ → ℕ → SourceFault → Type 0
IsUntold path from to fault = WantsMemory fault ⊎ IsNoText path from to

-- a part of a plan does not come: memory was refused, or what it lies in, or its name, is no text
abbrev pub FailsToCome : Found → Planned → SourceFault → Type 0
FailsToCome found part fault =
    WantsMemory fault ⊎ (IsNoText (path_at found.places.now part.place) 0 part.from ⊎ IsNoText (path_at found.places.now part.place) part.from part.to)

-- the one at this place of a plan does not
abbrev pub FailsToComeAt : Found → List Planned → ℕ → SourceFault → Type 0
FailsToComeAt found plan next fault = (part : Planned) × (slice_get plan next ≡ Some part) × FailsToCome found part fault

-- ---- forks that are begun

-- an allocation block ends among the first 2^32 logical blocks, which are those that a read can name; one that is missing isn't read
abbrev pub IsInReach : Mdb → Option ℕ → Type 0
IsInReach mdb None = ⊤
IsInReach mdb (Some b) = start_of mdb (b + 1) < 2 ^ 32

-- so do all blocks of a file
abbrev pub AreInReach : Mdb → FileBlocks → Type 0
AreInReach mdb places = (i : ℕ) (none : Option ℕ) → i < length places → IsInReach mdb (slice_index_or places i none)

-- so do these bytes, from a logical block on
abbrev pub IsRunInReach : Option ℕ → ℕ → Type 0
IsRunInReach None count = ⊤
IsRunInReach (Some n) count = n + count / 512 < 2 ^ 32

-- of an image of fewer than 2^32 logical blocks the blocks of a fork are in reach
abbrev pub IsForkInReach : Found → FoundFork → Type 0
IsForkInReach found fork = found.salvage.now.trees.total < 2 ^ 32 → AreInReach found.mdb.now fork.places.items

-- memory was refused for a fork, if its image has fewer than 2^32 logical blocks
abbrev pub FailsToOpenFork : Found → SourceFault → Type 0
FailsToOpenFork found fault = found.salvage.now.trees.total < 2 ^ 32 → WantsMemory fault

-- memory was refused for a stream
abbrev pub FailsToOpen : Found → Stream → SourceFault → Type 0
FailsToOpen found stream.DataFork fault = FailsToOpenFork found fault
FailsToOpen found stream.ResourceFork fault = FailsToOpenFork found fault
FailsToOpen found stream.Table fault = WantsMemory fault
FailsToOpen found stream.Remains fault = WantsMemory fault

-- a fork fails only where bytes of it are left; for a table memory was refused
abbrev pub FailsToRead : Reading → SourceFault → Type 0
FailsToRead (reading.Fork fork) fault = 1 ≤ fork.left
FailsToRead (reading.Table lines) fault = WantsMemory fault
FailsToRead (reading.Items lines) fault = WantsMemory fault
FailsToRead (reading.Remains lines) fault = WantsMemory fault
