-- What is read of the content is read of its range.
use Rattle.std.proofs.Common.{◌+◌, ◌≤◌, length, arith}
use Rattle.hfs_bag.proofs.PartLemmas.{plain_read, raw_read}
use Rattle.hfs_bag.proofs.part.ImagePartPlacedBytes.read_at.Goals as goal

pub returns-in-Plain-clause-read : goal.returns-in-Plain-clause-read
returns-in-Plain-clause-read g c =
    let part = c.self.inside in
    let within : c.args.place + length c.read_at.new.into ≤ part.len = omega arith in
    plain_read g.S.PlacedBytes.Holds g.K.PickedImage.image (record { source = c.read_at.new.self; layout = part.layout; start = part.start; len = part.len }) c.args.place c.read_at.new.into c.read_at.result
    c.in-Plain.is within c.read_at.ensures.read

pub returns-in-Raw-clause-read : goal.returns-in-Raw-clause-read
returns-in-Raw-clause-read g c =
    let part = c.self.inside in
    let within : c.args.place + length c.read_data.new.into ≤ part.len = omega arith in
    raw_read g.S.PlacedBytes.Holds g.K.PickedImage.image (record { source = c.read_data.new.bytes; layout = part.layout; start = part.start; len = part.len }) c.args.place c.read_data.new.into c.read_data.result
    c.in-Raw.is within c.read_data.ensures.read
