-- What was placed on the copy that was mounted was laid on it, or was not.
use Rattle.std.proofs.Common.{inr}
use Rattle.hfs_format.specs.Image.{image_bytes}
use Rattle.hfs_word_make.specs.Filled.{IsUnfilled}
use Rattle.hfs_word_make.specs.Orders.{put_order}
use Rattle.hfs_word_make.proofs.FillLemmas.{filled-in, passed-on, placed-on, refused-on, unlaid-in, unplaced-in, within-in}
use Rattle.hfs_word_make.proofs.filling.fill.Goals as goal

pub returns-in-Ok-lay_list-clause-put : goal.returns-in-Ok-lay_list-clause-put
returns-in-Ok-lay_list-clause-put c =
    let image = image_bytes c.args.image.now.planned in
    let placed = placed-on c.in-Ok.ensures.fresh c.put_order.ensures c.in_ok-list.ensures in
    filled-in c.args.order.now c.args.items.now image c.in-Ok.volume.base c.in-Ok.ensures.copy c.in_ok-list.list placed _ c.in-Ok-lay_list.put c.in-Ok-lay_list.ensures.laid

pub returns-in-Ok-lay_list-clause-within : goal.returns-in-Ok-lay_list-clause-within
returns-in-Ok-lay_list-clause-within c =
    within-in c.args.order.now c.args.items.now (image_bytes c.args.image.now.planned) c.in-Ok.volume.base c.in-Ok.ensures.copy c.in-Ok-lay_list.put c.in-Ok-lay_list.ensures.within

pub returns-in_err-list-clause-fault : goal.returns-in_err-list-clause-fault
returns-in_err-list-clause-fault c =
    let order = c.args.order.now in
    let items = c.args.items.now in
    let image = image_bytes c.args.image.now.planned in
    let told = c.in_err-list.field-0.0 in
    let lines = refused-on c.in-Ok.volume.base c.in-Ok.volume.current (put_order order) c.put_order.result items told c.in-Ok.ensures.fresh c.put_order.ensures c.in_err-list.ensures in
    passed-on c.from_residual.result told (IsUnfilled c.args.path order items image) c.from_residual.ensures.1 (inr (unplaced-in order items image c.in-Ok.volume.base c.in-Ok.ensures.copy told lines))

pub returns-clause-fault : goal.returns-clause-fault
returns-clause-fault c =
    let image = image_bytes c.args.image.now.planned in
    let placed = placed-on c.in-Ok.ensures.fresh c.put_order.ensures c.in_ok-list.ensures in
    inr (unlaid-in c.args.order.now c.args.items.now image c.in-Ok.volume.base c.in-Ok.ensures.copy c.in_ok-list.list placed _ _ c.in-Err-lay_list.ensures.fault)
