-- The volume's row begins those of its items.
use Rattle.std.proofs.Common.{◌∷◌, ◌++◌, None, Some}
use Rattle.hfs_fields.proofs.OutcomeLemmas.{on_err}
use Rattle.hfs_model.specs.Children.{entries_of}
use Rattle.hfs_check.specs.VolumeOf.{volume_of}
use Rattle.hfs_source.specs.Images.{OfEach}
use Rattle.hfs_database.specs.declared.value.Table.TheVariants.{Volume}
use Rattle.hfs_database.specs.Taken.{IsBeginning, row_of}
use Rattle.hfs_database.proofs.GivenLemmas.{begins_more}
use Rattle.hfs_word_collect.specs.Items.{item_rows}
use Rattle.hfs_word_collect.specs.Volumes.{volume_values}
use Rattle.hfs_word_collect.proofs.giving_volumes.give_sound.Goals as goal

pub returns-in_err-give_volume_row-clause-part : goal.returns-in_err-give_volume_row-clause-part
returns-in_err-give_volume_row-clause-part g c =
    let old = g.T.RowTaker.given c.args.taker.now in
    let new = g.T.RowTaker.given c.give_volume_row.new.taker in
    let row = row_of Volume (volume_values c.args.place.now None (Some c.args.mdb.now)) in
    let part : OfEach (g.S.PlacedBlocks.Holds c.args.image.now) (λ bytes. IsBeginning new (old ++ row ∷ item_rows c.args.taken (entries_of (volume_of bytes)))) =
    λ bytes h. begins_more new old (item_rows c.args.taken (entries_of (volume_of bytes))) row c.in_err-give_volume_row.ensures.part in
    on_err _ _ part
