use Rattle.std.proofs.Common.{◌∙◌, sym}
use Rattle.hfs_catalog.specs.Faults.{is_item_id_right}
use Rattle.hfs_catalog.proofs.IdSteps.{id_is}
use Rattle.hfs_fields.proofs.ScanStepLemmas.{scan_stop, scan_go}
use Rattle.hfs_catalog.proofs.id_check.first_wrong_id.Goals as goal

pub returns-then-not-is_item_id_right : goal.returns-then-not-is_item_id_right
returns-then-not-is_item_id_right c =
    let id = id_is c.args.next c.args.catalog.now c.records-records.result.now c.loop-i.i c.index-records-i.result (sym c.records-records.ensures) c.loop-i-test.true c.index-records-i.is in
    sym (c.loop-i.invariant ∙ scan_stop (is_item_id_right c.args.next) c.records-records.result.now c.loop-i.i c.index-records-i.result c.loop-i-test.true c.index-records-i.is (id ∙ sym c.is_item_id_right.ensures ∙ c.if-not-is_item_id_right.true))

pub loop-i-preserved : goal.loop-i-preserved
loop-i-preserved c =
    let id = id_is c.args.next c.args.catalog.now c.records-records.result.now c.loop-i.i c.index-records-i.result (sym c.records-records.ensures) c.loop-i-test.true c.index-records-i.is in
    c.loop-i.invariant ∙ scan_go (is_item_id_right c.args.next) c.records-records.result.now c.loop-i.i c.index-records-i.result c.loop-i-test.true c.index-records-i.is (id ∙ sym c.is_item_id_right.ensures ∙ c.if-not-is_item_id_right.false)
