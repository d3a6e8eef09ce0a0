-- What is given of the items is given of the image.
use Rattle.std.proofs.Common.{◌≡◌, ◌∙◌, List, ◌++◌, Global, OnErr, OnOk, IfErr, IfOk, ap, sym, subst}
use Rattle.std.specs.Prelude.{string_bytes}
use Rattle.std.specs.Option.{option_map}
use Rattle.hfs_bag.specs.declared.sums.BagSums.{BagSums}
use Rattle.hfs_bag.specs.Sums.{IsSumOf}
use Rattle.hfs_word_take.specs.declared.items.ImageItems.{ImageItems}
use Rattle.hfs_word_take.specs.Items.{bag_items, entries_in}
use Rattle.hfs_word_take.specs.Reading.{BeginsWith}
use Rattle.hfs_items.specs.ToldRows.{told_rows}
use Rattle.hfs_bag.specs.Entries.{IsBeginning, ShelfEntry}
use Rattle.hfs_source.specs.Images.{OfEach}
use Rattle.hfs_word_take.specs.Bags.{OfBag}
use Rattle.hfs_word_take.specs.Digests.{HoldsBeside}
use Rattle.hfs_word_take.specs.TakeFaults.{IsFillFault}
use Rattle.hfs_word_take.proofs.BagLemmas.{nothing_given}
use Rattle.hfs_word_take.proofs.giving.give_image.Goals as goal

pub returns-in-Err-clause-part : goal.returns-in-Err-clause-part
returns-in-Err-clause-part g c = λ image h.
    nothing_given image (option_map (string_bytes {Z = Global}) c.args.image.volume) c.args.words.now (HoldsBeside g.S.PlacedBlocks.Holds c.plan_digest-beside.result.0) (g.T.Shelf.given c.args.shelf.now)

pub returns-in-Err-new-clause-part : goal.returns-in-Err-new-clause-part
returns-in-Err-new-clause-part g c = λ image h.
    nothing_given image (option_map (string_bytes {Z = Global}) c.args.image.volume) c.args.words.now (HoldsBeside g.S.PlacedBlocks.Holds c.plan_digest-beside.result.0) (g.T.Shelf.given c.args.shelf.now)

pub give_items-sums-requires-clause-len : goal.give_items-sums-requires-clause-len
give_items-sums-requires-clause-len g c κs within = λ image h.
    c.args.image.len_is image (c.in-Ok.ensures.narrows image (subst (λ s. g.S.PlacedBlocks.Holds s image) (ap (λ (items : ImageItems g.row.S.Denot). items.source.image) c.new-watched.ensures ∙ c.in-Ok-new.ensures.image) h))

pub give_items-sums-requires-clause-root : goal.give_items-sums-requires-clause-root
give_items-sums-requires-clause-root g c κs within = λ image h.
    subst (λ (items : ImageItems g.row.S.Denot). BeginsWith items.root (told_rows (entries_in image))) (sym c.new-watched.ensures)
    (c.in-Ok-new.ensures.root image (subst (λ s. g.S.PlacedBlocks.Holds s image) (ap (λ (items : ImageItems g.row.S.Denot). items.source.image) c.new-watched.ensures ∙ c.in-Ok-new.ensures.image) h))

pub give_items-sums-requires-clause-told : goal.give_items-sums-requires-clause-told
give_items-sums-requires-clause-told g c κs within = (
  _,
  λ image h.
      c.in-Ok.ensures.told image (subst (λ s. g.S.PlacedBlocks.Holds s image) (ap (λ (items : ImageItems g.row.S.Denot). items.source.image) c.new-watched.ensures ∙ c.in-Ok-new.ensures.image) h),
)

pub give_items-sums-requires-clause-planned : goal.give_items-sums-requires-clause-planned
give_items-sums-requires-clause-planned g c κs within = λ image h.
    let told = c.in-Ok.ensures.told image (subst (λ s. g.S.PlacedBlocks.Holds s image) (ap (λ (items : ImageItems g.row.S.Denot). items.source.image) c.new-watched.ensures ∙ c.in-Ok-new.ensures.image) h) in
    c.plan_digest-beside.ensures c.in-Ok.told.digest image told.digest_is

pub returns-clause-whole : goal.returns-clause-whole
returns-clause-whole g c =
    let given = c.give_items-sums in
    let before = g.T.Shelf.given c.args.shelf.now in
    let now = g.T.Shelf.given given.new.shelf in
    let Holds = g.S.PlacedBlocks.Holds in
    subst (λ s. OnOk given.result (OfEach (Holds s)
    (OfBag (option_map (string_bytes {Z = Global}) c.args.image.volume) c.args.words.now (HoldsBeside Holds given.new.beside) (λ (bag : List ShelfEntry). now ≡ before ++ bag)))) (sym (c.into_image.ensures ∙ ap (λ (items : ImageItems g.row.S.Denot). items.source.image) c.into_items.ensures)) given.ensures.whole

pub returns-clause-part : goal.returns-clause-part
returns-clause-part g c =
    let given = c.give_items-sums in
    let before = g.T.Shelf.given c.args.shelf.now in
    let now = g.T.Shelf.given given.new.shelf in
    let Holds = g.S.PlacedBlocks.Holds in
    subst (λ s. OnErr given.result (OfEach (Holds s)
    (OfBag (option_map (string_bytes {Z = Global}) c.args.image.volume) c.args.words.now (HoldsBeside Holds given.new.beside) (λ (bag : List ShelfEntry). IsBeginning now (before ++ bag))))) (sym (c.into_image.ensures ∙ ap (λ (items : ImageItems g.row.S.Denot). items.source.image) c.into_items.ensures)) given.ensures.part

pub returns-clause-sums : goal.returns-clause-sums
returns-clause-sums g c =
    subst (λ s. IfOk c.give_items-sums.result (λ (sums : BagSums). OfEach (g.S.PlacedBlocks.Holds s) (λ image. IsSumOf sums (bag_items (entries_in image)))))
    (sym (c.into_image.ensures ∙ ap (λ (items : ImageItems g.row.S.Denot). items.source.image) c.into_items.ensures)) c.give_items-sums.ensures.sums

pub returns-clause-fault : goal.returns-clause-fault
returns-clause-fault g c =
    subst (λ s. IfErr c.give_items-sums.result (IsFillFault (g.T.Shelf.Fails (g.T.Shelf.place c.args.shelf.now)) (g.S.PlacedBlocks.Holds s)))
    (sym (c.into_image.ensures ∙ ap (λ (items : ImageItems g.row.S.Denot). items.source.image) c.into_items.ensures)) c.give_items-sums.ensures.fault

pub returns-clause-narrows : goal.returns-clause-narrows
returns-clause-narrows g c = λ image h.
    c.in-Ok.ensures.narrows image (subst (λ s. g.S.PlacedBlocks.Holds s image)
    (ap (λ (items : ImageItems g.row.S.Denot). items.source.image) c.new-watched.ensures ∙ c.in-Ok-new.ensures.image)
    (c.give_items-sums.ensures.narrows image (subst (λ s. g.S.PlacedBlocks.Holds s image)
    (c.into_image.ensures ∙ ap (λ (items : ImageItems g.row.S.Denot). items.source.image) c.into_items.ensures) h)))
