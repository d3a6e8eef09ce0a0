-- What was read has the page of each image.
use Rattle.hfs_page.proofs.SamePages.{written-each, part-each}
use Rattle.hfs_image.proofs.LawsProved.{gathered_is_enough}
use Rattle.hfs_page.proofs.image_page.write_image_page.Goals as goal

pub returns-clause-written : goal.returns-clause-written
returns-clause-written g c =
    written-each gathered_is_enough (g.S.PlacedBlocks.Holds c.args.image.now) c.volume-volume.result.now c.volume-volume.ensures.opened
    c.args.texts.now c.volume-blocks.result.read.now c.volume-blocks.ensures.read c.volume-blocks.result.count
    c.volume-blocks.ensures.count c.write_page.result _ _ c.write_page.ensures.written

pub returns-clause-part : goal.returns-clause-part
returns-clause-part g c =
    part-each gathered_is_enough (g.S.PlacedBlocks.Holds c.args.image.now) c.volume-volume.result.now c.volume-volume.ensures.opened
    c.args.texts.now c.volume-blocks.result.read.now c.volume-blocks.ensures.read c.volume-blocks.result.count
    c.volume-blocks.ensures.count c.write_page.result _ _ c.write_page.ensures.part
