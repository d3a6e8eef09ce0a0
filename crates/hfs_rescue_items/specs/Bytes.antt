-- The bytes that are taken of forks.
use Rattle.std.specs.Prelude.{◌≡◌, ℕ, ◌+◌, true, List, [], ◌++◌, length, Option, Some, None}
use Rattle.std.specs.Option.{option_map_or}
use Rattle.hfs_bag.specs.Forks.{first_bytes}
use Rattle.hfs_space.specs.declared.fork_kind.ForkKind.{ForkKind}
use Rattle.hfs_remains_forks.specs.declared.findings.FoundFork.{FoundFork}
use Rattle.hfs_remains_forks.specs.declared.shares.Share.{Share}
use Rattle.hfs_remains_forks.specs.declared.trees.Trees.{Trees}
use Rattle.hfs_remains_forks.specs.ForkBytes.{fork_bytes, share_bytes}
use Rattle.hfs_remains_forks.specs.Verdicts.{fork_share, shares_at}
use Rattle.hfs_rescue_items.specs.declared.found.Found.{Found}

-- ---- forks

-- the bytes that are taken of a fork by these trees
abbrev pub bytes_by : List ℕ → Trees → Share → List ℕ
bytes_by image t share = share_bytes image t.total t.overflow.now t.mdb.now share

-- those of a fork of item i; a folder has none
unfoldable pub taken_bytes : List ℕ → Found → ForkKind → ℕ → List ℕ
taken_bytes image found kind i =
    option_map_or (λ file. bytes_by image found.salvage.now.trees (fork_share kind file)) (shares_at found.salvage.now i) []

-- the bytes of a fork that is found are these
pub record HasBytes (image : List ℕ) (found : Found) (bytes : List ℕ) (fork : FoundFork) : Type 0 where
  pub bytes_are : fork_bytes image found.mdb.now fork.length fork.places.items ≡ bytes
  pub length_is : fork.length ≡ length bytes

-- a fork with these bytes is found, or none since there are no bytes
abbrev pub GivesBytes : List ℕ → Found → List ℕ → Option FoundFork → Type 0
GivesBytes image found bytes None = bytes ≡ []
GivesBytes image found bytes (Some fork) = HasBytes image found bytes fork

-- ---- pieces

-- bytes that begin in a block, or are missing, go on behind so many of them in another block, or are missing as well
abbrev pub GoesOn : Option ℕ → ℕ → Option ℕ → Type 0
GoesOn first count next =
    (image : List ℕ) (more : ℕ) → first_bytes true image first (count + more) ≡ first_bytes true image first count ++ first_bytes true image next more
