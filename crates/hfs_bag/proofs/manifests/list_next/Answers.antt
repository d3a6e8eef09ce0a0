use Rattle.std.proofs.Common.{List, ℕ, ◌∙◌, inl, inr, refl, subst, rules}
use Rattle.sha2.specs.Hashers.{Holds256}
use Rattle.hfs_bag.specs.Entries.{IsBeginning, with_piece}
use Rattle.hfs_bag.proofs.Beginnings.{begins_piece}
use Rattle.hfs_bag.specs.Bags.{items_entries, manifest}
use Rattle.hfs_bag.specs.Sources.{TakesItem}
use Rattle.hfs_bag.proofs.Growing.{each_err}
use Rattle.hfs_bag.proofs.ListingLemmas.{next_none, next_told, part_lines, taken_none}
use Rattle.hfs_bag.proofs.manifests.list_next.Goals as goal

pub returns-in_err-next_item-clause-part : goal.returns-in_err-next_item-clause-part
returns-in_err-next_item-clause-part g c = each_err _ (g.B.BagSource.Holds c.next_item.new.self)
    (λ image h. begins_piece (g.S.Shelf.given c.args.shelf.now) (manifest (items_entries (g.B.BagSource.state c.args.source.now image).left)))

-- of an image that holds, the same items are told again
pub returns-in_default-clause-fault : goal.returns-in_default-clause-fault
returns-in_default-clause-fault g c =
    inl (inr (
      refl,
      λ image h.
          next_none c.args.told.now (g.B.BagSource.state c.args.source.now image).left (c.requires image (c.in_ok-next_item.ensures.narrows image h))
          (taken_none _ _ c.in_ok-next_item.field-0 (search rules) (c.in_ok-next_item.ensures.taken image h)),
    ))

pub returns-in_default-clause-part : goal.returns-in_default-clause-part
returns-in_default-clause-part g c = λ image h.
    begins_piece (g.S.Shelf.given c.args.shelf.now) (manifest (items_entries (g.B.BagSource.state c.args.source.now image).left))

pub item_lines-requires : goal.item_lines-requires
item_lines-requires g c = λ image h.
    let taken = subst (TakesItem (g.B.BagSource.state c.args.source.now image) (g.B.BagSource.state c.next_item.new.self image)) c.in-Some.is (c.in_ok-next_item.ensures.taken image h) in
    next_told _ _ _ _ (c.requires image (c.in_ok-next_item.ensures.narrows image h)) taken.left

pub returns-in_err-lines-clause-part : goal.returns-in_err-lines-clause-part
returns-in_err-lines-clause-part g c = each_err _ (g.B.BagSource.Holds c.next_item.new.self)
    (λ image h. begins_piece (g.S.Shelf.given c.args.shelf.now) (manifest (items_entries (g.B.BagSource.state c.args.source.now image).left)))

pub returns-in_err-append-clause-part : goal.returns-in_err-append-clause-part
returns-in_err-append-clause-part g c = each_err _ (g.B.BagSource.Holds c.next_item.new.self) (λ image h.
    let before = g.B.BagSource.state c.args.source.now image in
    let after = g.B.BagSource.state c.next_item.new.self image in
    let taken = subst (TakesItem before after) c.in-Some.is (c.in_ok-next_item.ensures.taken image h) in
    let given = g.S.Shelf.given c.args.shelf.now in
    let now = g.S.Shelf.given c.append.new.self in
    part_lines given now before after (Holds256 c.args.digest.now) (Holds256 c.args.digest.now) c.in-Some.field-0 taken
    (subst (λ (lines : List ℕ). IsBeginning now (with_piece given lines)) (c.as_bytes.ensures.value ∙ c.in_ok-lines.ensures image h) c.in_err-append.ensures.part))
