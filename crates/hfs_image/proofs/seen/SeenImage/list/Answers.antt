-- What was opened tells of a folder what each image tells of it.
use Rattle.std.proofs.Common.{◌≡◌, Some, subst}
use Rattle.std.specs.Prelude.{IfOk}
use Rattle.hfs_source.specs.Images.{OfEach}
use Rattle.hfs_image.specs.Listing.{brief_list}
use Rattle.hfs_image.proofs.Listed.{lists-known}
use Rattle.hfs_image.proofs.Reported.{ok-so}
use Rattle.hfs_check.proofs.LawsProved.{no_blocks_fault}
use Rattle.hfs_image.proofs.LawsProved.{gathered_is_enough}
use Rattle.hfs_items.proofs.QueryLawsProved.{catalog_answers-entries}
use Rattle.hfs_image.proofs.seen.SeenImage.list.Goals as goal

pub returns : goal.returns
returns g c =
    let opened = c.self.inside in
    let is = c.self.invariant in
    subst (λ s. IfOk c.list_in_brief.result (λ reply. OfEach (g.S.PlacedBlocks.Holds s) (λ image. reply ≡ brief_list image c.args.dir))) c.self.view_is
    (ok-so c.list_in_brief.result
    (λ reply e image h.
    lists-known no_blocks_fault gathered_is_enough catalog_answers-entries (Some image) opened.len
    opened.volume.read is.opened.needed (is.seen image h) is.opened.sound c.args.dir reply e (is.long image h)) c.list_in_brief.ensures)
