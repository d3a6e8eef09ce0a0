use Rattle.std.proofs.Common.{◌∙◌, sym}
use Rattle.hfs_catalog.specs.Faults.{is_above}
use Rattle.hfs_catalog.proofs.OrderSteps.{one_rises, above_is, rises_more}
use Rattle.hfs_fields.proofs.ScanStepLemmas.{scan_stop, scan_go}
use Rattle.hfs_catalog.proofs.order_check.first_not_above.Goals as goal

pub loop-i-init : goal.loop-i-init
loop-i-init c = one_rises c.args.catalog.now

pub returns-then-not-is_below : goal.returns-then-not-is_below
returns-then-not-is_below c =
    let above = above_is c.args.catalog.now c.loop-i.i c.index-catalog-i.result c.index-catalog-i-in-loop-i.result c.loop-i.auto.i c.loop-i-test.true c.index-catalog-i.is c.loop-i.invariant.1 in
    sym (c.loop-i.invariant.0 ∙ scan_stop is_above c.args.catalog.now c.loop-i.i c.index-catalog-i-in-loop-i.result c.loop-i-test.true c.index-catalog-i-in-loop-i.is (above ∙ sym c.is_below.ensures ∙ c.if-not-is_below.true))

pub loop-i-preserved : goal.loop-i-preserved
loop-i-preserved c =
    let above = above_is c.args.catalog.now c.loop-i.i c.index-catalog-i.result c.index-catalog-i-in-loop-i.result c.loop-i.auto.i c.loop-i-test.true c.index-catalog-i.is c.loop-i.invariant.1 in
    let is = above ∙ sym c.is_below.ensures ∙ c.if-not-is_below.false in (
      c.loop-i.invariant.0 ∙ scan_go is_above c.args.catalog.now c.loop-i.i c.index-catalog-i-in-loop-i.result c.loop-i-test.true c.index-catalog-i-in-loop-i.is is,
      rises_more c.args.catalog.now c.loop-i.i c.index-catalog-i.result c.index-catalog-i-in-loop-i.result c.loop-i-test.true c.index-catalog-i-in-loop-i.is c.loop-i.invariant.1 is,
    )
