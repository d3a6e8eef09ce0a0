-- What is there once in a list, and what a search so finds.
use Rattle.std.proofs.Common.{ℕ, ◌≤◌, count_by}
use Rattle.hfs_catalog.specs.Records.{Catalog, has_id}

-- no number counts twice
abbrev pub IsOnce : Catalog → Type 0
IsOnce catalog = (k : ℕ) → count_by (has_id k) catalog ≤ 1
