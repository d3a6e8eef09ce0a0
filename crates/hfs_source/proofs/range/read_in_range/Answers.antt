-- The bytes that were read lie within the range.
use Rattle.std.proofs.Common.{◌+◌, ◌≤◌, length, arith}
use Rattle.hfs_source.proofs.RangeLemmas.{reads-within}
use Rattle.hfs_source.proofs.range.read_in_range.Goals as goal

pub returns-clause-read : goal.returns-clause-read
returns-clause-read g c =
    let within : c.args.place + length c.read_at.new.into ≤ c.args.len = omega arith in
    reads-within c.read_at.result (g.S.PlacedBytes.Holds c.read_at.new.self) c.args.start c.args.len c.args.place c.read_at.new.into within
    c.read_at.ensures.read
