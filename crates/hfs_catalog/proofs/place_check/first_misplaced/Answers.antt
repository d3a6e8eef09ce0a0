use Rattle.std.proofs.Common.{◌∙◌, sym, ap}
use Rattle.hfs_catalog.specs.Indexes.{earlier}
use Rattle.hfs_catalog.proofs.PlaceSteps.{unordered, unthreaded, misplaced_is}
use Rattle.hfs_catalog.proofs.place_check.first_misplaced.Goals as goal

pub returns : goal.returns
returns c =
    let order = c.first_not_above-unordered.ensures ∙ ap unordered c.records-records.ensures in
    let threads = c.in_ok-unthreaded.ensures ∙ ap unthreaded c.records-records.ensures in
    let items = c.earlier-items.ensures ∙ (λ i. earlier (order i) (c.in_ok-lone.ensures i)) in
    let folders = c.earlier-folders.ensures ∙ (λ i. earlier (items i) (threads i)) in
    c.earlier.ensures ∙ (λ i. earlier (folders i) (c.first_wrong_thread-astray.ensures i)) ∙ sym (misplaced_is c.args.catalog.now)
