use Rattle.std.proofs.Common.{ℕ, ◌∙◌, ap, sym, Option}
use Rattle.std.specs.Option.{option_or}
use Rattle.hfs_catalog.specs.Records.{has_id}
use Rattle.hfs_catalog.specs.Indexes.{only_if}
use Rattle.hfs_catalog.proofs.Indexed.{first_place_more}
use Rattle.hfs_catalog.proofs.index.item_places.Goals as goal

pub loop-i-preserved : goal.loop-i-preserved
loop-i-preserved c = λ id. c.in_ok-note_item.ensures id ∙ ap (λ (o : Option ℕ). option_or o (only_if (has_id id c.index-records-i.result) c.loop-i.i)) (c.loop-i.invariant id) ∙ sym (first_place_more (has_id id) c.args.records.now c.loop-i.i c.index-records-i.result c.loop-i-test.true c.index-records-i.is)
