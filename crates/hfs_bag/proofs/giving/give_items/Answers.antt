use Rattle.std.proofs.Common.{◌≡◌, ◌∙◌, [], Bool, refl, subst, rules}
use Rattle.hfs_source.specs.Images.{OfEach}
use Rattle.hfs_bag.specs.Filling.{IsMore}
use Rattle.hfs_bag.specs.Bags.{bytes_in, items_entries}
use Rattle.hfs_bag.specs.Faults.{AreTooMany, IsBagFault}
use Rattle.hfs_bag.proofs.FaultLemmas.{larger, rest-large}
use Rattle.hfs_bag.proofs.GivingLemmas.{given_bytes, given_digests, given_itself, given_next, given_whole, part_left}
use Rattle.hfs_bag.proofs.Growing.{each_err}
use Rattle.hfs_bag.proofs.giving.give_items.Goals as goal

pub loop-given-init : goal.loop-given-init
loop-given-init g c = record {
  given = λ image h. given_itself _ _ _ (search rules);
  narrows = λ image h. h;
  place = refl;
}

pub loop-given-preserved : goal.loop-given-preserved
loop-given-preserved g c =
    let before = c.loop-given.invariant in
    let one = c.in_ok-give_next.ensures in
    record {
      given = λ image h. given_next _ _ _ _ _ _ _ _ _ _ _ _ (before.given image (one.narrows image h)) (one.given image h);
      narrows = λ image h. before.narrows image (one.narrows image h);
      place = one.place ∙ before.place;
    }

pub returns-in_err-give_next-clause-part : goal.returns-in_err-give_next-clause-part
returns-in_err-give_next-clause-part g c =
    each_err _ (g.B.BagSource.Holds c.give_next.new.source) (λ image h. part_left _ _ (g.S.Shelf.given c.give_next.new.shelf) _ (g.B.BagSource.state c.loop-given.source image)
    (g.B.BagSource.state c.loop-given.source image) _ _ c.loop-given.given.digests.items _ _ 0
    (c.loop-given.invariant.given image (c.in_err-give_next.ensures.narrows image h)) (c.in_err-give_next.ensures.part image h))

pub returns-clause-whole : goal.returns-clause-whole
returns-clause-whole g c = λ image h.
    let one = c.in_ok-give_next.ensures in
    let none = subst (λ (more : Bool). IsMore (g.B.BagSource.items_left c.loop-given.source) (g.B.BagSource.items_left c.give_next.new.source)
    (OfEach (g.B.BagSource.Holds c.give_next.new.source) (λ image. (g.B.BagSource.state c.give_next.new.source image).left ≡ [])) more) c.if-branch.false one.more in
    given_whole _ _ _ _ _ _ (given_next _ _ _ _ _ _ _ _ _ _ _ _ (c.loop-given.invariant.given image (one.narrows image h)) (one.given image h)) (none image h)

pub returns-clause-digests : goal.returns-clause-digests
returns-clause-digests g c = λ image h.
    let one = c.in_ok-give_next.ensures in
    let none = subst (λ (more : Bool). IsMore (g.B.BagSource.items_left c.loop-given.source) (g.B.BagSource.items_left c.give_next.new.source)
    (OfEach (g.B.BagSource.Holds c.give_next.new.source) (λ image. (g.B.BagSource.state c.give_next.new.source image).left ≡ [])) more) c.if-branch.false one.more in
    given_digests _ _ _ _ _ _ (given_next _ _ _ _ _ _ _ _ _ _ _ _ (c.loop-given.invariant.given image (one.narrows image h)) (one.given image h)) (none image h)

pub returns-clause-bytes : goal.returns-clause-bytes
returns-clause-bytes g c = λ image h.
    let one = c.in_ok-give_next.ensures in
    let none = subst (λ (more : Bool). IsMore (g.B.BagSource.items_left c.loop-given.source) (g.B.BagSource.items_left c.give_next.new.source)
    (OfEach (g.B.BagSource.Holds c.give_next.new.source) (λ image. (g.B.BagSource.state c.give_next.new.source image).left ≡ [])) more) c.if-branch.false one.more in
    given_bytes _ _ _ _ _ _ (given_next _ _ _ _ _ _ _ _ _ _ _ _ (c.loop-given.invariant.given image (one.narrows image h)) (one.given image h)) (none image h)

pub returns-in_err-give_next-clause-fault : goal.returns-in_err-give_next-clause-fault
returns-in_err-give_next-clause-fault g c =
    let now = c.give_next.new.source in
    let Shelf = g.S.Shelf.Fails (g.S.Shelf.place c.loop-given.shelf) in
    let fault : IsBagFault g.B.BagSource.Fails Shelf
    (OfEach (g.B.BagSource.Holds now) (λ image. AreTooMany (bytes_in (items_entries (g.B.BagSource.state c.args.source.now image).left)))) c.in_err-give_next.field-0.0 =
    larger g.B.BagSource.Fails Shelf c.in_err-give_next.field-0.0
    (λ many image h. rest-large _ _ (g.B.BagSource.state c.args.source.now image) (g.B.BagSource.state c.loop-given.source image) _ c.loop-given.given.bytes
    (c.loop-given.invariant.given image (c.in_err-give_next.ensures.narrows image h)) (many image h)) c.in_err-give_next.ensures.fault in
    search rules
