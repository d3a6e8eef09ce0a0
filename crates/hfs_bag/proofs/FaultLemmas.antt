-- Faults that are passed on.
use Rattle.std.proofs.Common.{◌≡◌, ◌+◌, ℕ, List, [], ap, ◌∙◌, inl, inr, arith}
use Rattle.std.specs.Prelude.{⊤}
use Rattle.hfs_bag.specs.declared.shelf_fault.ShelfFault.{ShelfFault}
use Rattle.hfs_bag.specs.Entries.{ShelfEntry}
use Rattle.hfs_bag.specs.declared.facts.BagFacts.{BagFacts}
use Rattle.hfs_bag.specs.declared.fault.BagFault.{BagFault}
use Rattle.hfs_bag.specs.declared.fault.BagFault.TheVariants as bag
use Rattle.hfs_bag.specs.declared.item.BagHead.{BagHead}
use Rattle.hfs_bag.specs.declared.item.ItemDigests.{ItemDigests}
use Rattle.hfs_bag.specs.declared.source.SourceFault.{SourceFault}
use Rattle.hfs_bag.specs.Items.{BagItem, item_entries}
use Rattle.hfs_bag.specs.Sources.{BagTables, SourceState, HasItem}
use Rattle.hfs_bag.specs.Bags.{bytes_in, items_entries, payload}
use Rattle.hfs_bag.specs.Giving.{HasGiven}
use Rattle.hfs_bag.specs.Tags.{bag_of, tag_files}
use Rattle.hfs_bag.specs.Faults.{AreTooMany, HasFailed, IsBagFault}
use Rattle.hfs_bag.proofs.GivingLemmas.{bytes_in-append, items_entries-append}

module _ (Gave : SourceFault → Type 0) (Shelf : ShelfFault → Type 0) where
  pub larger : {A B : Type 0} (fault : BagFault) → (A → B) → IsBagFault Gave Shelf A fault → IsBagFault Gave Shelf B fault
  larger (bag.Source why) more is = is
  larger (bag.Shelf why) more is = is
  larger bag.TooLarge more is = more is

  pub source-failed : (A : Type 0) (Holds : List ℕ → Type 0) (fault : BagFault) → IsBagFault Gave Shelf A fault → IsBagFault (HasFailed Gave Holds) Shelf A fault
  source-failed A Holds (bag.Source why) (inl gave) = inl (inl gave)
  source-failed A Holds (bag.Source why) (inr memory) = inr memory
  source-failed A Holds (bag.Shelf why) is = is
  source-failed A Holds bag.TooLarge is = is

  -- whatever the source may give
  pub any-source : (A : Type 0) (fault : BagFault) → IsBagFault Gave Shelf A fault → IsBagFault (λ _. ⊤) Shelf A fault
  any-source A (bag.Source why) is = inl tt
  any-source A (bag.Shelf why) is = is
  any-source A bag.TooLarge is = is

  pub of-keeping : {A B : Type 0} (fault : BagFault) → (A → B) → IsBagFault (λ _. ⊥) (λ _. ⊥) A fault → IsBagFault Gave Shelf B fault
  of-keeping (bag.Source why) more (inl never) = absurd never
  of-keeping (bag.Source why) more (inr memory) = inr memory
  of-keeping (bag.Shelf why) more never = absurd never
  of-keeping bag.TooLarge more is = more is

-- the next item is too large, so all that are to come are
pub item-large : (s0 s1 : SourceState) (head : BagHead) (n b : ℕ) → HasItem head s0 s1 → b ≡ bytes_in (item_entries s1.item) → AreTooMany (n + b)
    → AreTooMany (n + bytes_in (items_entries s0.left))
item-large s0 s1 head n b taken is many =
    let entries = item_entries s1.item in
    let rest = items_entries s1.left in
    let sum : bytes_in (items_entries s0.left) ≡ bytes_in entries + bytes_in rest =
    ap (λ (items : List BagItem). bytes_in (items_entries items)) taken.left ∙ bytes_in-append entries rest in
    omega (arith, sum, is, many)

-- those to come behind others are too large, so all are
pub rest-large : (g0 g1 : List ShelfEntry) (s0 s1 : SourceState) (ds : List ItemDigests) (n : ℕ) → HasGiven g0 g1 s0 s1 [] ds 0 n
    → AreTooMany (n + bytes_in (items_entries s1.left)) → AreTooMany (bytes_in (items_entries s0.left))
rest-large g0 g1 s0 s1 ds n given many =
    let sum : bytes_in (items_entries s0.left) ≡ bytes_in (items_entries given.items) + bytes_in (items_entries s1.left) =
    ap (λ (items : List BagItem). bytes_in (items_entries items)) given.left ∙ ap bytes_in (items_entries-append given.items s1.left)
    ∙ bytes_in-append (items_entries given.items) (items_entries s1.left) in
    omega (arith, sum, given.bytes, many)

-- a bag is too large where its payload is
pub bag-large : (items : List BagItem) (tables : BagTables) (facts : BagFacts) → AreTooMany (bytes_in (payload items)) → AreTooMany (bytes_in (bag_of items tables facts))
bag-large items tables facts many = omega (arith, bytes_in-append (payload items) (tag_files items tables facts), many)
