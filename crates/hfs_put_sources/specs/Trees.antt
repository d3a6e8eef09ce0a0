-- A host's tree of folders and files, as far as it is asked for, by paths.
use Rattle.std.specs.Prelude.{ℕ, List, Option}
use Rattle.hfs_put_sources.specs.declared.entry.Look.{Look}

-- what has a name in a folder
pub record Listed : Type 0 where
  pub name : List ℕ
  pub look : Look

pub record Tree : Type 0 where
  -- what lies in the folder at a path, in no order; links are seen themselves
  pub entries : List ℕ → List Listed
  -- the bytes of the file at a path
  pub bytes : List ℕ → List ℕ
  -- what is seen at a path, where anything has it; a link is seen itself
  pub look : List ℕ → Option Look
  -- what a path leads to, where it leads to anything
  pub target : List ℕ → Option Look

-- this holds of each tree of these
abbrev pub OfEachTree : (Tree → Type 0) → (Tree → Type 0) → Type 0
OfEachTree Holds Fact = (tree : Tree) → Holds tree → Fact tree
