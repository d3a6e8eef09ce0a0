-- What is told of a fork that was found.
use Rattle.std.proofs.Common.{◌≡◌, ◌∙◌, ℕ, Bool, List, Option, Some, None, ap, sym}
use Rattle.std.specs.Option.{IsSomeAnd}
use Rattle.hfs_space.specs.declared.fork_kind.ForkKind.{ForkKind}
use Rattle.hfs_remains_forks.specs.declared.findings.FoundFork.{FoundFork}
use Rattle.hfs_remains_forks.specs.declared.shares.FileShares.{FileShares}
use Rattle.hfs_remains_forks.specs.ForkBytes.{fork_bytes}
use Rattle.hfs_remains_forks.specs.Verdicts.{IsForkOf, all_used, fork_share}
use Rattle.hfs_rescue_items.specs.declared.found.Found.{Found}
use Rattle.hfs_remains_forks.specs.Images.{said_of}
use Rattle.hfs_word_collect.specs.declared.remains.ForkTold.{ForkTold}
use Rattle.hfs_word_collect.specs.Refused.{image_of}
use Rattle.hfs_word_collect.specs.Remains.{told_by, told_fork}

-- of one that was found
pub told_found : (taken : Bool) (image : List ℕ) (found : Found) (kind : ForkKind) (fork : FoundFork) (told : ForkTold) (o : Option FileShares) → IsSomeAnd o (IsForkOf found.salvage.now kind fork)
    → told ≡ told_by taken fork.verdict (fork_bytes image found.mdb.now fork.length fork.places.items) → told ≡ told_fork taken (image_of found image) kind o
unfolding all_used
told_found taken image found kind fork told None there is = absurd there
told_found taken image found kind fork told (Some file) there is =
    let verdict : fork.verdict ≡ said_of (image_of found image) file (fork_share kind file) = there.verdict_is in
    is ∙ (λ i. told_by taken (verdict i) (fork_bytes image (found.mdb_is i) (there.length_is i) (there.places_are i)))

-- of none
pub told_none : (taken : Bool) (image : List ℕ) (found : Found) (kind : ForkKind) (told : ForkTold) (o : Option FileShares) → o ≡ None
    → told ≡ told_fork taken (image_of found image) kind None → told ≡ told_fork taken (image_of found image) kind o
told_none taken image found kind told o none is = is ∙ ap (told_fork taken (image_of found image) kind) (sym none)
