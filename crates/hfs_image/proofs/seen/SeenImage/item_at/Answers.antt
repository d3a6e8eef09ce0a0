-- What was opened tells of an item what each image tells of it.
use Rattle.std.proofs.Common.{◌≡◌, Some, subst}
use Rattle.hfs_model.specs.Children.{entries_of}
use Rattle.hfs_check.specs.VolumeOf.{volume_of}
use Rattle.hfs_source.specs.Images.{OfEach}
use Rattle.hfs_image.specs.Paths.{path_told}
use Rattle.hfs_image.proofs.ToldFiles.{path-known}
use Rattle.hfs_check.proofs.LawsProved.{no_blocks_fault}
use Rattle.hfs_image.proofs.LawsProved.{gathered_is_enough}
use Rattle.hfs_items.proofs.QueryLawsProved.{catalog_answers-entries}
use Rattle.hfs_image.proofs.seen.SeenImage.item_at.Goals as goal

pub returns : goal.returns
returns g c =
    let opened = c.self.inside in
    let is = c.self.invariant in
    subst (λ s. OfEach (g.S.PlacedBlocks.Holds s) (λ image. c.told_in.result ≡ path_told (entries_of (volume_of image)) c.args.names.now)) c.self.view_is
    (λ image h.
    path-known no_blocks_fault gathered_is_enough catalog_answers-entries (Some image) opened.len
    opened.volume.read is.opened.needed (is.seen image h) is.opened.sound c.args.names.now c.told_in.result c.told_in.ensures (is.long image h))
