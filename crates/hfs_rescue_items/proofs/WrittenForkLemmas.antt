-- What is written of a fork that is found, and whether it is whole.
use Rattle.std.proofs.Common.{◌≡◌, ◌∙◌, ℕ, Bool, List, [], Option, Some, None, sym, ap, subst}
use Rattle.std.specs.Option.{IsSomeAnd, option_map}
use Rattle.std.proofs.KnownBytes.{Appends-nil}
use Rattle.std.specs.Io.KnownBytes.{Appends}
use Rattle.hfs_texts.specs.Writing.{AppendsFront}
use Rattle.hfs_space.specs.declared.fork_kind.ForkKind.{ForkKind}
use Rattle.hfs_remains_forks.specs.declared.findings.FoundFork.{FoundFork}
use Rattle.hfs_remains_forks.specs.declared.shares.FileShares.{FileShares}
use Rattle.hfs_remains_forks.specs.ForkBytes.{fork_bytes}
use Rattle.hfs_remains_forks.specs.Verdicts.{FindsFork, IsForkOf, Salvaged, shares_at}
use Rattle.hfs_remains_places.specs.Verdicts.{is_whole}
use Rattle.hfs_rescue_items.specs.declared.found.Found.{Found}
use Rattle.hfs_rescue_items.specs.Bytes.{GivesBytes, taken_bytes}
use Rattle.hfs_rescue_items.specs.Writing.{WritesFrontOf, WritesOf}
use Rattle.hfs_rescue_items.specs.Forks.{fork_verdict, whole_fork}

module _ (found : Found) (kind : ForkKind) (i : ℕ) where
  -- a folder has no fork
  pub none_whole : (part : Option FoundFork) → part ≡ None → FindsFork found.salvage.now i kind part → None ≡ whole_fork found kind i
  unfolding whole_fork
  none_whole part none finds =
      let is : shares_at found.salvage.now i ≡ None = subst (FindsFork found.salvage.now i kind) none finds in
      sym (ap (λ (o : Option FileShares). option_map (λ (file : FileShares). is_whole (fork_verdict found.salvage.now kind file)) o) is)

  whole-by : (fork : FoundFork) (o : Option FileShares) → IsSomeAnd o (IsForkOf found.salvage.now kind fork)
      → Some (is_whole fork.verdict) ≡ option_map (λ (file : FileShares). is_whole (fork_verdict found.salvage.now kind file)) o
  whole-by fork None is = absurd is
  whole-by fork (Some file) is = ap (λ v. Some (is_whole v)) is.verdict_is

  -- a fork that is found is whole where that is said of it
  pub found_whole : (part : Option FoundFork) (fork : FoundFork) → part ≡ Some fork → FindsFork found.salvage.now i kind part → Some (is_whole fork.verdict) ≡ whole_fork found kind i
  unfolding whole_fork
  found_whole part fork some finds = whole-by fork (shares_at found.salvage.now i) (subst (FindsFork found.salvage.now i kind) some finds)

  -- nothing is written of a folder
  pub none_written : (Holds : List ℕ → Type 0) (old : Option (List ℕ)) (part : Option FoundFork) → part ≡ None → ((image : List ℕ) → GivesBytes image found (taken_bytes image found kind i) part)
      → WritesOf Holds old old (λ image. taken_bytes image found kind i)
  none_written Holds old part none gives = λ image h.
      let is : taken_bytes image found kind i ≡ [] = subst (GivesBytes image found (taken_bytes image found kind i)) none (gives image) in
      subst (Appends old old) (sym is) (Appends-nil old)

  bytes-are : (image : List ℕ) (part : Option FoundFork) (fork : FoundFork) → part ≡ Some fork → GivesBytes image found (taken_bytes image found kind i) part
      → fork_bytes image found.mdb.now fork.length fork.places.items ≡ taken_bytes image found kind i
  bytes-are image part fork some gives = (subst (GivesBytes image found (taken_bytes image found kind i)) some gives).bytes_are

  -- what is written of a fork is what is taken of it
  pub fork_written : (Holds : List ℕ → Type 0) (old new : Option (List ℕ)) (part : Option FoundFork) (fork : FoundFork) → part ≡ Some fork
      → ((image : List ℕ) → GivesBytes image found (taken_bytes image found kind i) part)
      → WritesOf Holds old new (λ image. fork_bytes image found.mdb.now fork.length fork.places.items) → WritesOf Holds old new (λ image. taken_bytes image found kind i)
  fork_written Holds old new part fork some gives written = λ image h. subst (Appends old new) (bytes-are image part fork some (gives image)) (written image h)

  -- or a part of it
  pub fork_front : (Holds : List ℕ → Type 0) (old new : Option (List ℕ)) (part : Option FoundFork) (fork : FoundFork) → part ≡ Some fork
      → ((image : List ℕ) → GivesBytes image found (taken_bytes image found kind i) part)
      → WritesFrontOf Holds old new (λ image. fork_bytes image found.mdb.now fork.length fork.places.items) → WritesFrontOf Holds old new (λ image. taken_bytes image found kind i)
  fork_front Holds old new part fork some gives front = λ image h. subst (AppendsFront old new) (bytes-are image part fork some (gives image)) (front image h)

  -- nothing was written yet
  pub nothing_front : (Holds : List ℕ → Type 0) (old : Option (List ℕ)) → WritesFrontOf Holds old old (λ image. taken_bytes image found kind i)
  nothing_front Holds old = λ image h. (0, Appends-nil old)
