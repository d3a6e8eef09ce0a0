-- Whether a fork that is taken is whole.
use Rattle.std.specs.Prelude.{ℕ, Bool, Option}
use Rattle.std.specs.Option.{option_map}
use Rattle.hfs_remains_forks.specs.declared.shares.FileShares.{FileShares}
use Rattle.hfs_remains_forks.specs.Verdicts.{Salvaged, fork_share, shares_at, used_for, verdict_of}
use Rattle.hfs_rescue_items.specs.declared.found.Found.{Found}
use Rattle.hfs_space.specs.declared.fork_kind.ForkKind.{ForkKind}
use Rattle.hfs_remains_places.specs.declared.verdict.Verdict.{Verdict}
use Rattle.hfs_remains_places.specs.Verdicts.{is_whole}

-- what is said about a file's fork
abbrev pub fork_verdict : Salvaged → ForkKind → FileShares → Verdict
fork_verdict s kind file = verdict_of s.trees.total s.trees.overflow.now s.trees.mdb.now (used_for s file) (fork_share kind file)

-- whether a fork of item i is whole; nothing of a folder, which has none
unfoldable pub whole_fork : Found → ForkKind → ℕ → Option Bool
whole_fork found kind i = option_map (λ (file : FileShares). is_whole (fork_verdict found.salvage.now kind file)) (shares_at found.salvage.now i)
