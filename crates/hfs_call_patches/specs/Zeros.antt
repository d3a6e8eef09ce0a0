-- Where the zeros end that a fork needs.
use Rattle.std.specs.Prelude.{ℕ, max, nat_lt, if◌then◌else◌}
use Rattle.hfs_model.specs.Forks.{physical_length}

-- after its last block, where blocks are added; else at its end, or where they would begin
abbrev pub zeros_end : ℕ → ℕ → ℕ → ℕ → ℕ
zeros_end size wanted from len = if nat_lt 0 wanted then physical_length size len else max from len
