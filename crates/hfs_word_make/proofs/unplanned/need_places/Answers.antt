-- All has its place on the empty volume, or what doesn't is told.
use Rattle.std.proofs.Common.{◌≡◌, None, subst, refl, inr}
use Rattle.hfs_check.specs.VolumeOf.{volume_of}
use Rattle.hfs_word_make.specs.Orders.{put_order}
use Rattle.hfs_word_make.specs.Unplanned.{HasPlaces, IsUnplaced}
use Rattle.hfs_word_put.specs.declared.order.PutOrder.{PutOrder}
use Rattle.hfs_word_put.specs.Placed.{refusal}
use Rattle.hfs_word_make.proofs.FillLemmas.{passed-match, refused-on}
use Rattle.hfs_word_make.proofs.unplanned.need_places.Goals as goal

pub returns-in_err-place_all : goal.returns-in_err-place_all
returns-in_err-place_all c =
    let wanted = c.args.wanted.now in
    let order = c.args.order.now in
    let items = c.args.items.now in
    let copy = c.in_ok-volume.volume.current in
    let told = c.in_err-place_all.field-0.0 in
    let lines = refused-on copy copy (put_order order) c.put_order.result items told refl c.put_order.ensures c.in_err-place_all.ensures in
    passed-match c.from_residual-in_err-place_all.result told (λ _. HasPlaces wanted order items) (IsUnplaced c.args.path wanted order items)
    c.from_residual-in_err-place_all.ensures.1 (inr (inr (record { copy = copy; empty = c.in_ok-volume.ensures.copy; lines = lines })))

pub returns : goal.returns
returns c = record {
  copy = c.in_ok-volume.volume.current;
  empty = c.in_ok-volume.ensures.copy;
  whole = subst (λ (order : PutOrder). refusal (volume_of c.in_ok-volume.volume.current) order c.args.items.now ≡ None) c.put_order.ensures c.in_ok-place_all.ensures.whole;
}
