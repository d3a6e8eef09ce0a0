use Rattle.std.proofs.Common.{◌+◌, subst, rules}
use Rattle.hfs_source.specs.Images.{OfEach}
use Rattle.hfs_bag.proofs.Beginnings.{begins_appended}
use Rattle.hfs_bag.specs.Bags.{bytes_in, items_entries}
use Rattle.hfs_bag.specs.Faults.{AreTooMany, IsBagFault}
use Rattle.hfs_bag.specs.Sources.{TakesItem}
use Rattle.hfs_bag.proofs.Growing.{each_err}
use Rattle.hfs_bag.proofs.FaultLemmas.{item-large, of-keeping}
use Rattle.hfs_bag.proofs.GivingLemmas.{given_one, part_behind, part_item}
use Rattle.hfs_bag.proofs.giving.give_next.Goals as goal

pub returns-in_err-head-clause-part : goal.returns-in_err-head-clause-part
returns-in_err-head-clause-part g c = each_err _ (g.B.BagSource.Holds c.next_item.new.self)
    (λ image h. begins_appended (g.S.Shelf.given c.args.shelf.now) (items_entries (g.B.BagSource.state c.args.source.now image).left))

pub give_item-requires : goal.give_item-requires
give_item-requires g c = λ image h.
    (subst (TakesItem (g.B.BagSource.state c.args.source.now image) (g.B.BagSource.state c.next_item.new.self image)) c.in-Some.is (c.in_ok-head.ensures.taken image h)).told

pub returns-in_err-told-clause-part : goal.returns-in_err-told-clause-part
returns-in_err-told-clause-part g c = each_err _ (g.B.BagSource.Holds c.give_item.new.source) (λ image h.
    let before = g.B.BagSource.state c.args.source.now image in
    let after = g.B.BagSource.state c.next_item.new.self image in
    let taken = subst (TakesItem before after) c.in-Some.is (c.in_ok-head.ensures.taken image (c.in_err-told.ensures.narrows image h)) in
    part_item (g.S.Shelf.given c.args.shelf.now) (g.S.Shelf.given c.give_item.new.shelf) before after after c.in-Some.head taken (c.in_err-told.ensures.part image h))

pub returns-in_err-keep-clause-part : goal.returns-in_err-keep-clause-part
returns-in_err-keep-clause-part g c = each_err _ (g.B.BagSource.Holds c.give_item.new.source) (λ image h.
    let before = g.B.BagSource.state c.args.source.now image in
    let after = g.B.BagSource.state c.next_item.new.self image in
    let taken = subst (TakesItem before after) c.in-Some.is (c.in_ok-head.ensures.taken image (c.in_ok-told.ensures.narrows image h)) in
    part_behind (g.S.Shelf.given c.args.shelf.now) (g.S.Shelf.given c.give_item.new.shelf) before after after c.in-Some.head taken (c.in_ok-told.ensures.whole image h))

pub returns-clause-given : goal.returns-clause-given
returns-clause-given g c = λ image h.
    let before = g.B.BagSource.state c.args.source.now image in
    let after = g.B.BagSource.state c.next_item.new.self image in
    let taken = subst (TakesItem before after) c.in-Some.is (c.in_ok-head.ensures.taken image (c.in_ok-told.ensures.narrows image h)) in
    given_one (g.S.Shelf.given c.args.shelf.now) (g.S.Shelf.given c.give_item.new.shelf) before after (g.B.BagSource.state c.give_item.new.source image) c.in-Some.head _ _ c.in_ok-told.told _ _ c.item_bytes.result
    taken (c.in_ok-told.ensures.same image h) (c.in_ok-told.ensures.whole image h) c.in_ok-keep.ensures.digests (c.in_ok-told.ensures.digests image h) c.in_ok-keep.ensures.bytes
    (c.item_bytes.ensures after.item taken.told)

pub returns-in_err-keep-clause-fault : goal.returns-in_err-keep-clause-fault
returns-in_err-keep-clause-fault g c =
    let Shelf = g.S.Shelf.Fails (g.S.Shelf.place c.args.shelf.now) in
    let fault : IsBagFault g.B.BagSource.Fails Shelf (OfEach (g.B.BagSource.Holds c.give_item.new.source)
    (λ image. AreTooMany (c.args.given.now.bytes + bytes_in (items_entries (g.B.BagSource.state c.args.source.now image).left)))) c.in_err-keep.field-0.0 =
    of-keeping g.B.BagSource.Fails Shelf c.in_err-keep.field-0.0 (λ many image h.
    let before = g.B.BagSource.state c.args.source.now image in
    let after = g.B.BagSource.state c.next_item.new.self image in
    let taken = subst (TakesItem before after) c.in-Some.is (c.in_ok-head.ensures.taken image (c.in_ok-told.ensures.narrows image h)) in
    item-large before after c.in-Some.head c.args.given.now.bytes c.item_bytes.result taken (c.item_bytes.ensures after.item taken.told) many) c.in_err-keep.ensures.fault in
    search rules
