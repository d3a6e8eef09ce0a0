-- The volume's counts, where a fork changes.
use Rattle.std.specs.Prelude.{ℕ}
use Rattle.hfs_fields.specs.declared.mdb.Mdb.{Mdb}

-- so many blocks are free, and the last change was now
abbrev pub counts_with : ℕ → ℕ → Mdb → Mdb
counts_with free now mdb = record mdb { modified = now; free_blocks = free }
