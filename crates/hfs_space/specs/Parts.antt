-- Bytes in the place of others.
use Rattle.std.specs.Prelude.{ℕ, ◌+◌, List, ◌++◌, length, take, drop, replicate}

-- the bytes, with a part in the place of those from `offset` on
abbrev pub with_part : ℕ → List ℕ → List ℕ → List ℕ
with_part offset part bytes = take offset bytes ++ part ++ drop (offset + length part) bytes

-- so many zeros
abbrev pub zeros : ℕ → List ℕ
zeros n = replicate n 0
