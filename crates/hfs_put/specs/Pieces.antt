-- Pieces of a file in which forks are laid.
use Rattle.std.specs.Prelude.{◌≡◌, ℕ, ◌+◌, ◌≤◌, ⊤, IsTrue, List, Contains, take, drop}
use Rattle.hfs_put_sources.specs.Items.{PlannedItem}
use Rattle.hfs_put_sources.specs.Trees.{Tree}
use Rattle.hfs_put_sources.specs.declared.fork_run.ForkRun.{ForkRun}
use Rattle.hfs_put.specs.Laid.{laid, run_bytes}
use Rattle.hfs_put.specs.Runs.{lie_in}
use Rattle.hfs_put.specs.declared.piece.Piece.{Piece}
use Rattle.hfs_put.specs.declared.piece.Piece.TheVariants.{Own, OfRun}

-- how many bytes it has
abbrev pub piece_len : Piece → ℕ
piece_len (Own count) = count
piece_len (OfRun run from count) = count

-- the bytes of such a piece, which begins at byte `at` of the file
abbrev pub piece_bytes : Tree → List PlannedItem → List ℕ → ℕ → Piece → List ℕ
piece_bytes host items file at (Own count) = take count (drop at file)
piece_bytes host items file at (OfRun run from count) = take count (drop from (run_bytes host items run))

-- the file with the forks laid in it has the piece's bytes at byte `at`
abbrev pub IsPieceAt : ℕ → List ForkRun → ℕ → Piece → Type 0
IsPieceAt start runs at piece =
    (host : Tree) (items : List PlannedItem) (file : List ℕ) → IsTrue (lie_in start runs file)
    → take (piece_len piece) (drop at (laid start host items runs file)) ≡ piece_bytes host items file at piece

-- byte `at` of the file is byte `from` of one of the runs, which has so many from there on
pub record IsPartOfRun (start : ℕ) (runs : List ForkRun) (at : ℕ) (run : ForkRun) (from count : ℕ) : Type 0 where
  pub is_one : Contains runs run
  pub there : start + run.place + from ≡ at
  pub within : from + count ≤ run.len

-- a piece of a run is a part of it
abbrev pub IsInRun : ℕ → List ForkRun → ℕ → Piece → Type 0
IsInRun start runs at (Own count) = ⊤
IsInRun start runs at (OfRun run from count) = IsPartOfRun start runs at run from count
