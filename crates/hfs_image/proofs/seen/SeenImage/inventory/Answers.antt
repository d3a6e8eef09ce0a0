-- What was opened gives the rows of each image's table.
use Rattle.std.proofs.Common.{◌≡◌, Some, subst, sym}
use Rattle.std.specs.Prelude.{IfOk}
use Rattle.hfs_fields.specs.Keys.{cat_cmp}
use Rattle.hfs_btree.specs.Pairs.{Rises}
use Rattle.hfs_catalog.specs.Records.{Catalog}
use Rattle.hfs_model.specs.Children.{entries_of}
use Rattle.hfs_check.specs.VolumeOf.{volume_of}
use Rattle.hfs_items.specs.Levels.{Going}
use Rattle.hfs_items.specs.ToldRows.{told_rows}
use Rattle.hfs_source.specs.Images.{OfEach}
use Rattle.hfs_image.proofs.Listed.{table-known}
use Rattle.hfs_image.proofs.Reported.{ok-so}
use Rattle.hfs_check.proofs.LawsProved.{no_blocks_fault}
use Rattle.hfs_image.proofs.LawsProved.{gathered_is_enough}
use Rattle.hfs_items.proofs.QueryLawsProved.{catalog_answers-entries}
use Rattle.hfs_items.proofs.LawsProved.{catalogs_tell_tables}
use Rattle.hfs_image.proofs.seen.SeenImage.inventory.Goals as goal

pub new-requires : goal.new-requires
new-requires g c = subst (λ (catalog : Catalog). Rises cat_cmp catalog) (sym c.in_ok-records.ensures) c.self.invariant.opened.sound.places.records.rises

pub returns : goal.returns
returns g c =
    let opened = c.self.inside in
    let is = c.self.invariant in
    subst (λ s. IfOk c.new.result (λ (inventory : Going). OfEach (g.S.PlacedBlocks.Holds s) (λ image. inventory.left ≡ told_rows (entries_of (volume_of image))))) c.self.view_is
    (ok-so c.new.result
    (λ (inventory : Going) e image h.
    table-known no_blocks_fault gathered_is_enough catalog_answers-entries catalogs_tell_tables (Some image) opened.len
    opened.volume.read is.opened.needed (is.seen image h) is.opened.sound c.in_ok-records.records.items c.in_ok-records.ensures inventory e (is.long image h)) c.new.ensures)
