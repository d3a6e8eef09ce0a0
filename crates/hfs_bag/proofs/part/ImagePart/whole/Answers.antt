-- The range of all bytes.
use Rattle.hfs_bag.specs.Parts.{content_of}
use Rattle.hfs_bag.proofs.PartLemmas.{part_whole}
use Rattle.hfs_bag.proofs.part.ImagePart.whole.Goals as goal

pub returns-clause-whole : goal.returns-clause-whole
returns-clause-whole g c =
    let image = g.K.PickedImage.image in
    part_whole g.S.PlacedBytes.Holds image (content_of c.args.layout image) c.args.source c.content_len-len.result c.range.result (λ h. c.content_len-len.ensures image (c.len.ensures image h))
    c.range.ensures.source c.range.ensures.range
