-- What was written of a piece.
use Rattle.std.proofs.Common.{◌≡◌, Some, ◌*◌, length, take, min, refl, rules}
use Rattle.hfs_source.proofs.Written.{piece-written, piece-part}
use Rattle.hfs_source.proofs.writing.copy_piece.Goals as goal

pub returns-in_default-put-clause-part : goal.returns-in_default-put-clause-part
returns-in_default-put-clause-part g c =
    let fits : length c.read_blocks.new.into ≡ c.args.piece.count * 512 = search rules in
    let least : c.min-most.result ≡ min (c.args.piece.count * 512) c.args.left = search rules in
    piece-part c.args.piece.first c.args.piece.count c.args.left c.min-most.result c.read_blocks.new.into (take c.min-most.result c.read_blocks.new.into) fits refl least
    (g.S.BlockSource.image c.args.source.now) (g.W.Write.contents c.args.writer.now) (g.W.Write.contents c.put.new.writer) c.in-Ok.ensures.read
    c.in_default-put.ensures.err

pub returns-clause-written : goal.returns-clause-written
returns-clause-written g c =
    let fits : length c.read_blocks.new.into ≡ c.args.piece.count * 512 = search rules in
    let least : c.min-most.result ≡ min (c.args.piece.count * 512) c.args.left = search rules in
    piece-written c.args.piece.first c.args.piece.count c.args.left c.min-most.result c.read_blocks.new.into (take c.min-most.result c.read_blocks.new.into) fits refl least
    (g.S.BlockSource.image c.args.source.now) (g.W.Write.contents c.args.writer.now) (g.W.Write.contents c.put.new.writer) c.in-Ok.ensures.read
    c.in-Ok-put.ensures.ok

pub returns-in_default-put-clause-each_part : goal.returns-in_default-put-clause-each_part
returns-in_default-put-clause-each_part g c = λ image h.
    let fits : length c.read_blocks.new.into ≡ c.args.piece.count * 512 = search rules in
    let least : c.min-most.result ≡ min (c.args.piece.count * 512) c.args.left = search rules in
    piece-part c.args.piece.first c.args.piece.count c.args.left c.min-most.result c.read_blocks.new.into (take c.min-most.result c.read_blocks.new.into) fits refl least
    (Some image) (g.W.Write.contents c.args.writer.now) (g.W.Write.contents c.put.new.writer) (c.in-Ok.ensures.seen image h)
    c.in_default-put.ensures.err

pub returns-clause-each : goal.returns-clause-each
returns-clause-each g c = λ image h.
    let fits : length c.read_blocks.new.into ≡ c.args.piece.count * 512 = search rules in
    let least : c.min-most.result ≡ min (c.args.piece.count * 512) c.args.left = search rules in
    piece-written c.args.piece.first c.args.piece.count c.args.left c.min-most.result c.read_blocks.new.into (take c.min-most.result c.read_blocks.new.into) fits refl least
    (Some image) (g.W.Write.contents c.args.writer.now) (g.W.Write.contents c.put.new.writer) (c.in-Ok.ensures.seen image h)
    c.in-Ok-put.ensures.ok
