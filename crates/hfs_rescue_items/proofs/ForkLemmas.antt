-- The bytes of forks that are found.
use Rattle.std.proofs.Common.{◌≡◌, ℕ, ◌≤◌, List, [], length, Option, Some, None, sym, ap, ◌∙◌}
use Rattle.std.specs.Option.{IsSomeAnd, option_map_or}
use Rattle.std.proofs.lemmas.List.{get_or_past}
use Rattle.hfs_space.specs.declared.fork_kind.ForkKind.{ForkKind}
use Rattle.hfs_remains.specs.TreeFiles.{FileBlocks}
use Rattle.hfs_remains_forks.specs.declared.findings.FoundFork.{FoundFork}
use Rattle.hfs_remains_forks.specs.declared.shares.FileShares.{FileShares}
use Rattle.hfs_remains_forks.specs.declared.shares.Share.{Share}
use Rattle.hfs_remains_forks.specs.declared.trees.Trees.{Trees}
use Rattle.hfs_remains_forks.specs.ForkBytes.{fork_bytes}
use Rattle.hfs_remains_forks.proofs.ForkByteLemmas.{length-share_bytes}
use Rattle.hfs_remains_forks.specs.Verdicts.{FindsFork, IsForkOf, IsFound, fork_share, shares_at, used_for}
use Rattle.hfs_rescue_items.specs.declared.found.Found.{Found}
use Rattle.hfs_rescue_items.specs.Bytes.{GivesBytes, HasBytes, bytes_by, taken_bytes}

module _ (image : List ℕ) (found : Found) (kind : ForkKind) (i : ℕ) where
  abbrev trees : Trees
  trees = found.salvage.now.trees

  share-has : found.mdb.now ≡ trees.mdb.now → (fork : FoundFork) (share : Share) (used : FileBlocks) → IsFound trees.total trees.overflow.now trees.mdb.now used share fork
      → HasBytes image found (bytes_by image trees share) fork
  share-has same fork share used is = record {
    bytes_are = λ j. fork_bytes image (same j) (is.length_is j) (is.places_are j);
    length_is = is.length_is ∙ sym (length-share_bytes image trees.total trees.overflow.now trees.mdb.now share);
  }

  fork-has : found.mdb.now ≡ trees.mdb.now → (fork : FoundFork) (o : Option FileShares) → IsSomeAnd o (IsForkOf found.salvage.now kind fork)
      → HasBytes image found (option_map_or (λ (file : FileShares). bytes_by image trees (fork_share kind file)) o []) fork
  fork-has same fork None is = absurd is
  fork-has same fork (Some file) is = share-has same fork (fork_share kind file) (used_for found.salvage.now file) is

  gives_bytes-none : shares_at found.salvage.now i ≡ None → taken_bytes image found kind i ≡ []
  unfolding taken_bytes
  gives_bytes-none none = ap (λ (o : Option FileShares). option_map_or (λ (file : FileShares). bytes_by image trees (fork_share kind file)) o []) none

  -- what is found of a fork has its bytes
  pub gives_bytes : found.mdb.now ≡ trees.mdb.now → (r : Option FoundFork) → FindsFork found.salvage.now i kind r → GivesBytes image found (taken_bytes image found kind i) r
  unfolding taken_bytes
  gives_bytes same None none = gives_bytes-none none
  gives_bytes same (Some fork) finds = fork-has same fork (shares_at found.salvage.now i) finds

  pub past_bytes : length found.salvage.now.shares ≤ i → taken_bytes image found kind i ≡ []
  past_bytes past = gives_bytes-none (get_or_past found.salvage.now.shares i None past)
