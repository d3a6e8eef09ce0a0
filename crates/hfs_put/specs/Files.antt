-- A tree of a host, of which one file may be open.
use Rattle.std.specs.Prelude.{ℕ, List, Option, Some, None, ⊤}
use Rattle.hfs_source.specs.Images.{OfEach}
use Rattle.hfs_put_sources.specs.Trees.{Tree}

-- a tree, the file of it that is open, and the path by which the last was opened
pub record ReadTree (T F : Type 0) : Type 0 where
  pub tree : T
  pub path : List ℕ
  pub file : Option F

-- with this file as the one that is open
abbrev pub with_opened : {T F : Type 0} → ReadTree T F → F → ReadTree T F
with_opened read file = record { tree = read.tree; path = read.path; file = Some file }

-- what was read of the open file is what the tree has at its path
abbrev pub IsOpenedOf : {F : Type 0} → (F → List ℕ → Type 0) → Option F → List ℕ → Tree → Type 0
IsOpenedOf Bytes (Some file) path host = Bytes file (host.bytes path)
IsOpenedOf Bytes None path host = ⊤

-- the trees that have what was read
abbrev pub IsReadOf : {T F : Type 0} → (T → Tree → Type 0) → (F → List ℕ → Type 0) → ReadTree T F → Tree → Type 0
IsReadOf Hosts Bytes read host = IsOpenedOf Bytes read.file read.path host × Hosts read.tree host

-- the open file can be taken back
abbrev pub CanBeTaken : {T F : Type 0} → (T → List ℕ → List ℕ → Type 0) → (F → List ℕ → Type 0) → T → List ℕ → Option F → Type 0
CanBeTaken Opens Bytes tree path (Some file) = OfEach (Bytes file) (Opens tree path)
CanBeTaken Opens Bytes tree path None = ⊤
