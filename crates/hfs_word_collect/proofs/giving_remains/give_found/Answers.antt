-- The volume's row begins the rows of what was found.
use Rattle.std.proofs.Common.{◌++◌, Some}
use Rattle.hfs_fields.proofs.OutcomeLemmas.{on_err}
use Rattle.hfs_source.specs.Images.{OfEach}
use Rattle.hfs_database.specs.declared.value.Table.TheVariants.{Volume}
use Rattle.hfs_database.specs.Taken.{IsBeginning, row_of}
use Rattle.hfs_database.proofs.GivenLemmas.{begins_more}
use Rattle.hfs_word_collect.specs.Refused.{IsFoundOf, rows_found}
use Rattle.hfs_word_collect.specs.Remains.{remains_rows_by}
use Rattle.hfs_word_collect.specs.Volumes.{volume_values}
use Rattle.hfs_word_collect.proofs.giving_remains.give_found.Goals as goal

pub returns-in_err-give_volume_row-clause-part : goal.returns-in_err-give_volume_row-clause-part
returns-in_err-give_volume_row-clause-part g c =
    let old = g.T.RowTaker.given c.args.taker.now in
    let new = g.T.RowTaker.given c.give_volume_row.new.taker in
    let remains = c.args.remains.now in
    let finds = remains.finds.now in
    let part : OfEach (g.S.PlacedBlocks.Holds c.args.source.now.blocks)
    (λ image. IsFoundOf finds remains.limit image → IsBeginning new (old ++ rows_found c.args.taken c.args.place.now remains.why finds image)) =
    λ image h is. begins_more new old (remains_rows_by c.args.taken image (Some finds.mdb)) (row_of Volume (volume_values c.args.place.now (Some remains.why) (Some finds.mdb)))
    c.in_err-give_volume_row.ensures.part in
    on_err _ _ part
