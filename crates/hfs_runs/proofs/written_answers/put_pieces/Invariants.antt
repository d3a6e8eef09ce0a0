use Rattle.std.proofs.Common.{◌≡◌, length, take}
use Rattle.std.specs.List.{flat_map}
use Rattle.std.specs.Io.KnownBytes.{Appends}
use Rattle.hfs_runs.specs.Pieces.{piece_text}
use Rattle.hfs_runs.proofs.written_answers.put_pieces.Given as goal

-- the pieces so far were written
abbrev pub invariant-loop-piece : goal.invariant-loop-piece
invariant-loop-piece g l = record {
  room : length l.room ≡ length l.fn.room;
  written : Appends (g.W.Write.contents l.fn.writer) (g.W.Write.contents l.writer) (flat_map (piece_text l.answers.replies) (take l.piece-index l.answers.pieces.items));
}
