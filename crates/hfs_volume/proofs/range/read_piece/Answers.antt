-- What was read of the file, with the changed blocks laid over it.
use Rattle.std.proofs.Common.{◌≡◌, ◌+◌, ◌*◌, length, refl, ap, rules}
use Rattle.hfs_volume.proofs.RangePieces.{range-piece}
use Rattle.hfs_volume.proofs.range.read_piece.Goals as goal

pub returns-clause-read : goal.returns-clause-read
returns-clause-read g c =
    let into = c.read_at.new.into in
    let fits : length into ≡ length c.args.piece.now = search rules in
    range-piece (g.S.PlacedBytes.Holds c.read_at.new.self) c.args.range c.args.changed.now c.args.first (length c.args.piece.now)
    (c.args.range.start + c.from.result * 512) into c.lay_piece.new.piece (λ bytes. c.lay_piece.new.piece ≡ bytes)
    (ap (λ n. c.args.range.start + n * 512) c.from.ensures) c.requires.inside fits
    c.lay_piece.ensures c.in-Ok.ensures.read refl
