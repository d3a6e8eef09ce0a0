-- Faults of what can't be read.
use Rattle.std.specs.Prelude.{◌≡◌, ◌≢◌, ◌⊎◌, ℕ, List, ⊤, Contains, None, string_bytes}
use Rattle.hfs_encodings.specs.Failing.{SomeFail}
use Rattle.hfs_source.specs.Images.{OfEach}
use Rattle.hfs_put_sources.specs.declared.fault.HostFault.{HostFault}
use Rattle.hfs_put_sources.specs.declared.fault.HostFault.TheVariants.{CannotRead, NotUtf8, NoMemory}
use Rattle.hfs_put_sources.specs.Trees.{OfEachTree, Tree}

-- what has this path can't be read, or there was no memory to say so
abbrev pub IsUnread : List ℕ → HostFault → Type 0
IsUnread path (CannotRead unread) = string_bytes unread ≡ path
IsUnread path (NotUtf8 folder) = ⊥
IsUnread path NoMemory = ⊤

-- ---- those of a tree

-- the fault is one of these, or there was no memory
abbrev pub IsFaultOf : (HostFault → Type 0) → HostFault → Type 0
IsFaultOf Fails fault = fault ≢ NoMemory → Fails fault

-- each of the first is one of the others
abbrev pub FailLater : (HostFault → Type 0) → (HostFault → Type 0) → Type 0
FailLater new old = (fault : HostFault) → new fault → old fault

-- what has this path may be told as what can't be read
abbrev pub FailsAt : (HostFault → Type 0) → List ℕ → Type 0
FailsAt Fails path = (fault : HostFault) → IsUnread path fault → IsFaultOf Fails fault

-- so it is where a read of bytes of a file fails, however much of it was read, and each file that has what was read has these bytes
abbrev pub FailsWith : {F : Type 0} → (F → List ℕ → Type 0) → (F → ℕ → ℕ → Type 0) → (HostFault → Type 0) → List ℕ → F → Type 0
FailsWith {F} Holds FileFails Fails path file = (read : F) → OfEach (Holds read) (Holds file) → SomeFail (Holds read) (FileFails file) → FailsAt Fails path

-- ---- those of sources

-- the path of a source leads to nothing
pub record IsAbsentSource (Hosts : Tree → Type 0) (source : List ℕ) (fault : HostFault) : Type 0 where
  pub unread : IsUnread source fault
  pub absent : OfEachTree Hosts (λ host. host.target source ≡ None)

-- the fault of one source: the tree's, or that there is none
abbrev pub IsSourceFault : (HostFault → Type 0) → (Tree → Type 0) → List ℕ → HostFault → Type 0
IsSourceFault Fails Hosts source fault = IsFaultOf Fails fault ⊎ IsAbsentSource Hosts source fault

-- of some: the tree's, or that one of them is none
abbrev pub IsListingFault : (HostFault → Type 0) → (Tree → Type 0) → List (List ℕ) → HostFault → Type 0
IsListingFault Fails Hosts sources fault = IsFaultOf Fails fault ⊎ ((source : List ℕ) × Contains sources source × IsAbsentSource Hosts source fault)
