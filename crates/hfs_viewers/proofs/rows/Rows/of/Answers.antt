use Rattle.std.proofs.Common.{◌≡◌, ◌∙◌}
use Rattle.hfs_blocks.specs.Blocks.{block_at}
use Rattle.hfs_check.specs.Parts.{mdb_in}
use Rattle.hfs_viewers.specs.Opened.{table_over}
use Rattle.hfs_viewers.proofs.ChangedLemmas.{none_of}
use Rattle.hfs_viewers.proofs.Made.{are_right, is_table, is_volume, is_lawful}
use Rattle.hfs_check.proofs.LawsProved.{catalog_is_sound, sound_images_are_lawful}
use Rattle.hfs_catalog.proofs.CatalogLawsProved.{valences_are_counted, items_are_records, named_are_records, sound_is_lawful, entries_are_records}
use Rattle.hfs_viewers.proofs.rows.Rows.of.Goals as goal

pub of-requires-2-clause-changed : goal.of-requires-2-clause-changed
of-requires-2-clause-changed c = record {
  sound = c.in_ok-base.ensures.agrees.sound;
  none = λ e. none_of c.args.volume.now.changed c.changed-changed.result c.changed-changed.ensures.count e;
  beside = c.changed-changed.ensures.others;
}

pub of-requires-2-clause-right : goal.of-requires-2-clause-right
of-requires-2-clause-right c =
    let v = c.args.volume.now in
    are_right v.current c.in_ok-base.ensures.agrees.sound catalog_is_sound valences_are_counted sound_is_lawful entries_are_records

pub invariant_of-result : goal.invariant_of-result
invariant_of-result c =
    let v = c.args.volume.now in
    let is : c.table_over-table.result ≡ table_over v.base (mdb_in (block_at v.current)) c.in_ok-maps.maps =
    c.table_over-table.ensures ∙ (λ i. table_over (c.in_ok-base.ensures.base i) (c.directory.ensures i) c.in_ok-maps.maps) in (
      is_table v.written v.base v.current c.in_ok-maps.maps c.in_ok-base.ensures.sound c.in_ok-base.ensures.agrees catalog_is_sound items_are_records named_are_records sound_images_are_lawful
          c.in_ok-maps.ensures c.table_over-table.result is,
      is_lawful v.written v.base v.current c.in_ok-maps.maps c.in_ok-base.ensures.sound c.in_ok-base.ensures.agrees catalog_is_sound items_are_records named_are_records sound_images_are_lawful
          c.in_ok-maps.ensures c.table_over-table.result is,
    )

pub returns : goal.returns
returns c =
    let v = c.args.volume.now in
    let is : c.table_over-table.result ≡ table_over v.base (mdb_in (block_at v.current)) c.in_ok-maps.maps =
    c.table_over-table.ensures ∙ (λ i. table_over (c.in_ok-base.ensures.base i) (c.directory.ensures i) c.in_ok-maps.maps) in
    is_volume v.written v.base v.current c.in_ok-maps.maps c.in_ok-base.ensures.sound c.in_ok-base.ensures.agrees catalog_is_sound items_are_records named_are_records sound_images_are_lawful
    c.in_ok-maps.ensures c.table_over-table.result is
