-- Lemmas about the definitions of specs/Indexes.antt.
use Rattle.std.specs.Prelude.{ℕ, Option}
use Rattle.std.specs.List.{position_from}
use Rattle.hfs_catalog.specs.Records.{Catalog, is_thread_of}

-- the place of the first thread whose key is this ID
abbrev pub thread_place : Catalog → ℕ → Option ℕ
thread_place catalog id = position_from (is_thread_of id) 0 catalog
