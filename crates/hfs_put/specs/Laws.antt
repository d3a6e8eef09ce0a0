-- Forks that are laid in an image inside a file.
use Rattle.std.specs.Prelude.{◌≡◌, ℕ, ◌+◌, ◌≤◌, IsTrue, List, length, take, drop}
use Rattle.hfs_put_sources.specs.Items.{PlannedItem}
use Rattle.hfs_put_sources.specs.Trees.{Tree}
use Rattle.hfs_put_sources.specs.declared.fork_run.ForkRun.{ForkRun}
use Rattle.hfs_put.specs.Laid.{laid}
use Rattle.hfs_put.specs.Runs.{are_apart, last_end}

-- the file with the forks laid in it is as it was before the image and after it, and the image is the image with them laid in it
pub record IsLaidInImage (start len : ℕ) (host : Tree) (items : List PlannedItem) (runs : List ForkRun) (file : List ℕ) : Type 0 where
  pub before : take start (laid start host items runs file) ≡ take start file
  pub image : take len (drop start (laid start host items runs file)) ≡ laid 0 host items runs (take len (drop start file))
  pub behind : drop (start + len) (laid start host items runs file) ≡ drop (start + len) file

-- so it is of each image that lies in a file, and in which the runs lie
abbrev pub AreLaidInImages : Type 0
AreLaidInImages =
    (start len : ℕ) (host : Tree) (items : List PlannedItem) (runs : List ForkRun) (file : List ℕ) → start + len ≤ length file
    → IsTrue (are_apart 0 runs) → last_end 0 runs ≤ len → IsLaidInImage start len host items runs file
