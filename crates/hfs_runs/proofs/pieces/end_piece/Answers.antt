use Rattle.std.proofs.Common.{◌++◌, refl, string_bytes}
use Rattle.hfs_runs.specs.Pieces.{HasPieceMore}
use Rattle.hfs_runs.proofs.PieceLemmas.{on_ok}
use Rattle.hfs_runs.proofs.pieces.end_piece.Goals as goal

pub returns-clause-piece : goal.returns-clause-piece
returns-clause-piece c =
    on_ok c.from_str.result (HasPieceMore c.args.pieces.now.items (string_bytes c.args.text ++ c.args.head.now) c.args.asked c.push.new.self.items)
    (record { piece = record { text = c.push_str.new.self; asked = c.args.asked }; grown = c.in_ok-push.ensures.items; text_is = c.in_ok-push_str.ensures.bytes; asked_is = refl })
