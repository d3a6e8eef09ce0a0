use Rattle.std.proofs.Common.{List, sym, subst, rules}
use Rattle.hfs_bag.specs.Items.{BagItem}
use Rattle.hfs_bag.specs.Bags.{payload}
use Rattle.hfs_bag.specs.Faults.{HasFailed, IsFillFault}
use Rattle.hfs_bag.specs.Payloads.{IsPayloadOf}
use Rattle.hfs_bag.specs.Sums.{IsSumOf}
use Rattle.hfs_bag.specs.Tags.{tag_files}
use Rattle.hfs_bag.proofs.FaultLemmas.{larger, source-failed}
use Rattle.hfs_bag.proofs.Growing.{each_err, part_first}
use Rattle.hfs_bag.proofs.HalfLemmas.{bag_part, bag_whole}
use Rattle.hfs_bag.proofs.bag.give_bag.Goals as goal

pub returns-in_err-given-clause-part : goal.returns-in_err-given-clause-part
returns-in_err-given-clause-part g c = each_err _ (g.B.BagSource.Holds c.give_payload.new.source) (λ image h.
    let source = g.B.BagSource.state c.args.source.now image in
    part_first (g.S.Shelf.given c.args.shelf.now) (g.S.Shelf.given c.give_payload.new.shelf) (payload source.all) (tag_files source.all source.tables c.args.facts.now)
    (c.in_err-given.ensures.part image h))

pub give_tag_files-requires : goal.give_tag_files-requires
give_tag_files-requires g c = λ image h.
    subst (λ (items : List BagItem). IsPayloadOf c.in_ok-given.given items) (sym (c.in_ok-given.ensures.kept image h).all) (c.in_ok-given.ensures.told image h)

pub returns-in_err-sums-clause-part : goal.returns-in_err-sums-clause-part
returns-in_err-sums-clause-part g c = each_err _ (g.B.BagSource.Holds c.give_tag_files.new.source) (λ image h.
    let was = c.in_err-sums.ensures.narrows image h in
    bag_part (g.S.Shelf.given c.args.shelf.now) (g.S.Shelf.given c.give_payload.new.shelf) (g.S.Shelf.given c.give_tag_files.new.shelf)
    (g.B.BagSource.state c.args.source.now image) (g.B.BagSource.state c.give_payload.new.source image) c.args.facts.now (c.in_ok-given.ensures.kept image was)
    (c.in_ok-given.ensures.whole image was) (c.in_err-sums.ensures.part image h))

pub returns-clause-whole : goal.returns-clause-whole
returns-clause-whole g c = λ image h.
    let was = c.in_ok-sums.ensures.narrows image h in
    bag_whole (g.S.Shelf.given c.args.shelf.now) (g.S.Shelf.given c.give_payload.new.shelf) (g.S.Shelf.given c.give_tag_files.new.shelf)
    (g.B.BagSource.state c.args.source.now image) (g.B.BagSource.state c.give_payload.new.source image) c.args.facts.now (c.in_ok-given.ensures.kept image was)
    (c.in_ok-given.ensures.whole image was) (c.in_ok-sums.ensures.whole image h)

pub returns-in_err-given-clause-fault : goal.returns-in_err-given-clause-fault
returns-in_err-given-clause-fault g c =
    let Holds = g.B.BagSource.Holds c.give_payload.new.source in
    let state = g.B.BagSource.state c.args.source.now in
    let Shelf = g.S.Shelf.Fails (g.S.Shelf.place c.args.shelf.now) in
    let fault : IsFillFault g.B.BagSource.Fails Shelf Holds state c.in_err-given.field-0.0 =
    source-failed g.B.BagSource.Fails Shelf _ Holds c.in_err-given.field-0.0 c.in_err-given.ensures.fault in
    search rules

pub returns-in_err-sums-clause-fault : goal.returns-in_err-sums-clause-fault
returns-in_err-sums-clause-fault g c =
    let Holds = g.B.BagSource.Holds c.give_tag_files.new.source in
    let state = g.B.BagSource.state c.args.source.now in
    let Source = HasFailed g.B.BagSource.Fails Holds in
    let Shelf = g.S.Shelf.Fails (g.S.Shelf.place c.give_payload.new.shelf) in
    let fault : IsFillFault g.B.BagSource.Fails Shelf Holds state c.in_err-sums.field-0.0 =
    larger Source Shelf c.in_err-sums.field-0.0 (λ never. absurd never) c.in_err-sums.ensures.fault in
    search rules

pub returns-clause-sums : goal.returns-clause-sums
returns-clause-sums g c = λ image h.
    subst (λ (items : List BagItem). IsSumOf c.in_ok-sums.sums items) (c.in_ok-given.ensures.kept image (c.in_ok-sums.ensures.narrows image h)).all
    (c.in_ok-sums.ensures.sums image h)
