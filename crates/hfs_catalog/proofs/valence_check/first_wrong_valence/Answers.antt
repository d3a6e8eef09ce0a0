use Rattle.std.proofs.Common.{◌∙◌, sym}
use Rattle.hfs_catalog.specs.Indexes.{count_of}
use Rattle.hfs_catalog.specs.Faults.{is_valence_right}
use Rattle.hfs_catalog.proofs.ValenceSteps.{valence_is}
use Rattle.hfs_fields.proofs.ScanStepLemmas.{scan_stop, scan_go}
use Rattle.hfs_catalog.proofs.valence_check.first_wrong_valence.Goals as goal

pub returns-then-not-is_valence_right : goal.returns-then-not-is_valence_right
returns-then-not-is_valence_right c =
    let right = valence_is (count_of c.args.counts.now) c.args.catalog.now c.index-catalog-i.result c.requires in
    sym (c.loop-i.invariant ∙ scan_stop (λ _ r. is_valence_right c.args.catalog.now r) c.args.catalog.now c.loop-i.i c.index-catalog-i.result c.loop-i-test.true c.index-catalog-i.is (right ∙ sym c.is_valence_right.ensures ∙ c.if-not-is_valence_right.true))

pub loop-i-preserved : goal.loop-i-preserved
loop-i-preserved c =
    let right = valence_is (count_of c.args.counts.now) c.args.catalog.now c.index-catalog-i.result c.requires in
    c.loop-i.invariant ∙ scan_go (λ _ r. is_valence_right c.args.catalog.now r) c.args.catalog.now c.loop-i.i c.index-catalog-i.result c.loop-i-test.true c.index-catalog-i.is (right ∙ sym c.is_valence_right.ensures ∙ c.if-not-is_valence_right.false)
