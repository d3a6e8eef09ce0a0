-- The pieces of the forks that are found.
use Rattle.std.proofs.Common.{◌≡◌, ◌∙◌, ℕ, List, [], Option, None, Some, ap, subst, sym}
use Rattle.std.specs.Option.{IsSomeAnd, option_map_or}
use Rattle.hfs_fields.specs.declared.extent.Extent.{Extent}
use Rattle.hfs_remains_forks.specs.declared.findings.FoundFork.{FoundFork}
use Rattle.hfs_remains_forks.specs.declared.shares.FileShares.{FileShares}
use Rattle.hfs_remains_forks.specs.Verdicts.{FindsFork, IsForkOf, Salvaged, fork_share, share_used, shares_at}
use Rattle.hfs_space.specs.declared.fork_kind.ForkKind.{ForkKind}
use Rattle.hfs_remains_page.specs.Pictures.{fork_blocks, pieces}

module _ (s : Salvaged) (kind : ForkKind) (i : ℕ) where
  -- a folder has no fork
  no-blocks : (part : Option FoundFork) → part ≡ None → FindsFork s i kind part → fork_blocks s kind i ≡ []
  no-blocks part none finds =
      let is : shares_at s i ≡ None = subst (FindsFork s i kind) none finds in
      ap (λ (o : Option FileShares). option_map_or (λ (file : FileShares). share_used s.trees.total s.trees.overflow.now s.trees.mdb.now (fork_share kind file)) o []) is

  blocks-by : (fork : FoundFork) (o : Option FileShares) → IsSomeAnd o (IsForkOf s kind fork)
      → fork.places.items ≡ option_map_or (λ (file : FileShares). share_used s.trees.total s.trees.overflow.now s.trees.mdb.now (fork_share kind file)) o []
  blocks-by fork None is = absurd is
  blocks-by fork (Some file) is = is.places_are

  pub none_pieces : (part : Option FoundFork) (made : List Extent) → part ≡ None → FindsFork s i kind part → made ≡ [] → made ≡ pieces (fork_blocks s kind i)
  none_pieces part made none finds empty = empty ∙ sym (ap pieces (no-blocks part none finds))

  pub fork_pieces : (part : Option FoundFork) (fork : FoundFork) (made : List Extent) → part ≡ Some fork → FindsFork s i kind part → made ≡ pieces fork.places.items
      → made ≡ pieces (fork_blocks s kind i)
  fork_pieces part fork made some finds all = all ∙ ap pieces (blocks-by fork (shares_at s i) (subst (FindsFork s i kind) some finds))
