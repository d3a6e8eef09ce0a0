use Rattle.std.proofs.Common.{◌≡◌, ◌<◌, ℕ, length, get_or}
use Rattle.hfs_shared.proofs.workers.begin_all.Given as goal

abbrev pub invariant-loop-at : goal.invariant-loop-at
invariant-loop-at l =
    (length l.dones.items ≡ l.at)
    × ((i : ℕ) (d : _) (j : _) → i < l.at → (get_or l.dones.items i d).pass ≡ (get_or l.jobs.items i j).0)
