-- What was read, with the changed blocks laid over it, was written.
use Rattle.std.proofs.Common.{◌≡◌, length, rules}
use Rattle.std.specs.Io.KnownBytes.{Appends}
use Rattle.hfs_texts.specs.Writing.{AppendsFront}
use Rattle.hfs_volume.proofs.Pieces.{of-piece}
use Rattle.hfs_volume.proofs.writing.write_piece.Goals as goal

pub returns-in_default-put-clause-part : goal.returns-in_default-put-clause-part
returns-in_default-put-clause-part g c =
    let fits : length c.read_blocks.new.into ≡ c.args.count = search rules in
    of-piece (g.S.BlockSource.Holds c.read_blocks.new.self) c.args.changed.now c.args.first c.args.count c.read_blocks.new.into c.lay_piece.new.piece
    (AppendsFront (g.W.Write.contents c.args.writer.now) (g.W.Write.contents c.put.new.writer)) fits c.lay_piece.ensures c.in-Ok.ensures.seen
    c.in_default-put.ensures.err

pub returns-clause-written : goal.returns-clause-written
returns-clause-written g c =
    let fits : length c.read_blocks.new.into ≡ c.args.count = search rules in
    of-piece (g.S.BlockSource.Holds c.read_blocks.new.self) c.args.changed.now c.args.first c.args.count c.read_blocks.new.into c.lay_piece.new.piece
    (Appends (g.W.Write.contents c.args.writer.now) (g.W.Write.contents c.put.new.writer)) fits c.lay_piece.ensures c.in-Ok.ensures.seen
    c.in-Ok-put.ensures.ok
