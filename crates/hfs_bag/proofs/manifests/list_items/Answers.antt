use Rattle.std.proofs.Common.{◌≡◌, ◌≤◌, ◌<◌, ◌+◌, [], drop, length, refl, sym, ◌∙◌, arith}
use Rattle.std.proofs.lemmas.List.{drop_all, drop_more}
use Rattle.sha2.specs.Hashers.{Holds256}
use Rattle.hfs_bag.specs.declared.item.ItemDigests.TheVariants as digests
use Rattle.hfs_bag.proofs.Growing.{each_err}
use Rattle.hfs_bag.proofs.ListingLemmas.{is_next, listed_digest, listed_more, listed_none, listed_whole, part_listed, told_behind, told_none}
use Rattle.hfs_bag.proofs.manifests.list_items.Goals as goal

pub loop-at-init : goal.loop-at-init
loop-at-init g c = record {
  listed = λ image h. listed_none _ _ _ _ _ _ refl refl (λ m held. held);
  told = c.requires;
  narrows = λ image h. h;
  place = refl;
}

pub list_next-requires : goal.list_next-requires
list_next-requires g c = λ image h.
    let l = c.loop-at in
    let within : l.at < length c.args.told.now = omega arith in
    is_next _ (drop (l.at + 1) c.args.told.now) (drop l.at c.args.told.now) _ (l.invariant.told image h) (drop_more c.args.told.now l.at _ within)

pub returns-in_err-list_next-clause-part : goal.returns-in_err-list_next-clause-part
returns-in_err-list_next-clause-part g c = each_err _ (g.B.BagSource.Holds c.list_next.new.source) (λ image h.
    let l = c.loop-at in
    let state = g.B.BagSource.state l.source image in
    part_listed _ _ (g.S.Shelf.given c.list_next.new.shelf) _ state state (Holds256 c.args.digest.now) (Holds256 l.digest) (Holds256 l.digest)
    (l.invariant.listed image (c.in_err-list_next.ensures.narrows image h)) (c.in_err-list_next.ensures.part image h))

pub loop-at-preserved : goal.loop-at-preserved
loop-at-preserved g c =
    let l = c.loop-at in
    let within : l.at < length c.args.told.now = omega arith in
    let one = c.in_ok-list_next.ensures in
    record {
      listed = λ image h. listed_more _ _ _ _ _ _ _ _ _ (l.invariant.listed image (one.narrows image h)) (one.listed image h);
      told = λ image h. told_behind _ (drop (l.at + 1) c.args.told.now) (drop l.at c.args.told.now) _ _ (one.listed image h).item (l.invariant.told image (one.narrows image h))
          (drop_more c.args.told.now l.at digests.NoFile within) (one.listed image h).left;
      narrows = λ image h. l.invariant.narrows image (one.narrows image h);
      place = one.place ∙ l.invariant.place;
    }

pub returns-clause-whole : goal.returns-clause-whole
returns-clause-whole g c = λ image h.
    let l = c.loop-at in
    let end : length c.args.told.now ≤ l.at = omega arith in
    let none : (g.B.BagSource.state l.source image).left ≡ [] = told_none _ (sym (drop_all l.at c.args.told.now end) ∙ l.invariant.told image h) in
    listed_whole _ _ _ _ (Holds256 c.args.digest.now) (Holds256 l.digest) (l.invariant.listed image h) none

pub returns-clause-digest : goal.returns-clause-digest
returns-clause-digest g c = λ image h.
    let l = c.loop-at in
    let end : length c.args.told.now ≤ l.at = omega arith in
    let none : (g.B.BagSource.state l.source image).left ≡ [] = told_none _ (sym (drop_all l.at c.args.told.now end) ∙ l.invariant.told image h) in
    listed_digest _ _ _ _ (Holds256 c.args.digest.now) (Holds256 l.digest) (l.invariant.listed image h) none
