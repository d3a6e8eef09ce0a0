-- What one call gives a writer.
use Rattle.std.specs.Prelude.{ℕ, List, ◌++◌}
use Rattle.hfs_bag.specs.declared.written.WrittenPiece.{WrittenPiece}

abbrev pub with_piece : List ℕ → WrittenPiece → List ℕ
with_piece given piece = given ++ piece.bytes.now
