-- Pieces laid one after the other, and what is read where one of them is.
use Rattle.std.proofs.Common.{ℕ, ◌+◌, List, ◌++◌, length, drop}

-- bytes with these in place of their first ones, as many
abbrev pub with_front : List ℕ → List ℕ → List ℕ
with_front front bytes = front ++ drop (length front) bytes
