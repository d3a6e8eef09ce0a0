-- What is given of what was found is given of each image that holds.
use Rattle.std.proofs.Common.{◌≡◌, ◌∙◌, ℕ, List, ◌++◌, Global, Some, map, ap, refl, subst}
use Rattle.std.specs.Prelude.{⊤, string_bytes}
use Rattle.std.specs.Option.{option_map}
use Rattle.hfs_fields.proofs.OutcomeLemmas.{on_err_then, on_ok, if_err}
use Rattle.hfs_bag.proofs.FaultLemmas.{any-source, bag-large, larger}
use Rattle.hfs_bag.specs.Bags.{bytes_in}
use Rattle.hfs_bag.specs.Faults.{AreTooMany}
use Rattle.hfs_bag.specs.declared.facts.BagFacts.{BagFacts}
use Rattle.hfs_rescue_items.specs.declared.items.RescueItems.{RescueItems}
use Rattle.hfs_rescue_items.specs.Sources.{planned_item, rescued_tables}
use Rattle.hfs_bag.specs.Entries.{IsBeginning, ShelfEntry}
use Rattle.hfs_source.specs.declared.seen_blocks.SeenBlocks.{SeenBlocks}
use Rattle.hfs_source.specs.Seen.{EachKnown}
use Rattle.hfs_word_rescue.specs.Bags.{OfKnownBag}
use Rattle.hfs_word_rescue.proofs.BagLemmas.{given_bag, nothing_given, tells_known}
use Rattle.hfs_word_rescue.proofs.filling.give_found.Goals as goal

pub returns-in-Err-clause-part : goal.returns-in-Err-clause-part
returns-in-Err-clause-part g c = λ image h. nothing_given (Some image) c.args.about.now.len (option_map (string_bytes {Z = Global}) c.args.about.now.line) c.args.words.now (g.T.Shelf.given c.args.shelf.now)

pub returns-clause-part : goal.returns-clause-part
returns-clause-part g c =
    let words = c.args.words.now in
    let found = c.args.found.now in
    let made = c.new-watched.result.items in
    let before = g.T.Shelf.given c.args.shelf.now in
    let now = g.T.Shelf.given c.give_bag-came.new.shelf in
    let facts : BagFacts = record {
      identifier = c.as_str.result;
      program = c.args.words.now.program;
      image = c.as_str-2.result;
      volume = c.text_in.result;
      directory = c.text_in-2.result;
      bytes = c.args.about.now.len;
      digest = c.args.about.now.told.digest;
      report = c.as_str-3.result;
    } in
    let own = λ (image : List ℕ) (h : g.S.PlacedBlocks.Holds c.into_source.result.blocks image). subst (λ (source : SeenBlocks g.row.S.Denot). g.S.PlacedBlocks.Holds source.blocks image)
    (c.into_source.ensures ∙ ap (λ (items : RescueItems (SeenBlocks g.row.S.Denot)). items.source) c.into_items.ensures) h in
    let held = λ (image : List ℕ) (h : g.S.PlacedBlocks.Holds c.into_source.result.blocks image). subst (λ (source : SeenBlocks g.row.S.Denot). g.S.PlacedBlocks.Holds source.blocks image)
    (ap (λ (items : RescueItems (SeenBlocks g.row.S.Denot)). items.source) c.new-watched.ensures ∙ c.in-Ok.ensures.source) (c.give_bag-came.ensures.narrows image (own image h)) in
    let tells = λ (image : List ℕ) (h : g.S.PlacedBlocks.Holds c.into_source.result.blocks image). tells_known (Some image) c.args.about.now.len found.mdb.now (option_map (string_bytes {Z = Global}) c.args.about.now.line) words c.args.about.now.told facts (c.requires.told image (held image h)) c.as_str.ensures.value refl
    c.as_str-2.ensures.value c.text_in.ensures c.text_in-2.ensures refl refl c.as_str-3.ensures.value in
    let same = ap (λ (items : RescueItems (SeenBlocks g.row.S.Denot)). items.found) c.new-watched.ensures ∙ c.in-Ok.ensures.found in
    let planned = ap (λ (items : RescueItems (SeenBlocks g.row.S.Denot)). items.plan.items) c.new-watched.ensures ∙ c.in-Ok.ensures.plan in
    on_err_then _ _ (EachKnown (g.S.PlacedBlocks.Holds c.into_source.result.blocks) (λ known. OfKnownBag known c.args.about.now.len (option_map (string_bytes {Z = Global}) c.args.about.now.line) words (λ (bag : List ShelfEntry). IsBeginning now (before ++ bag)))) (λ part image h. given_bag image c.args.about.now.len (option_map (string_bytes {Z = Global}) c.args.about.now.line) words found made.found made.plan.items facts (λ (bag : List ShelfEntry). IsBeginning now (before ++ bag))
    (c.requires.found image (held image h)) (tells image h) same planned (part image (own image h))) c.give_bag-came.ensures.part

pub returns-clause-whole : goal.returns-clause-whole
returns-clause-whole g c =
    let words = c.args.words.now in
    let found = c.args.found.now in
    let made = c.new-watched.result.items in
    let before = g.T.Shelf.given c.args.shelf.now in
    let now = g.T.Shelf.given c.give_bag-came.new.shelf in
    let facts : BagFacts = record {
      identifier = c.as_str.result;
      program = c.args.words.now.program;
      image = c.as_str-2.result;
      volume = c.text_in.result;
      directory = c.text_in-2.result;
      bytes = c.args.about.now.len;
      digest = c.args.about.now.told.digest;
      report = c.as_str-3.result;
    } in
    let own = λ (image : List ℕ) (h : g.S.PlacedBlocks.Holds c.into_source.result.blocks image). subst (λ (source : SeenBlocks g.row.S.Denot). g.S.PlacedBlocks.Holds source.blocks image)
    (c.into_source.ensures ∙ ap (λ (items : RescueItems (SeenBlocks g.row.S.Denot)). items.source) c.into_items.ensures) h in
    let held = λ (image : List ℕ) (h : g.S.PlacedBlocks.Holds c.into_source.result.blocks image). subst (λ (source : SeenBlocks g.row.S.Denot). g.S.PlacedBlocks.Holds source.blocks image)
    (ap (λ (items : RescueItems (SeenBlocks g.row.S.Denot)). items.source) c.new-watched.ensures ∙ c.in-Ok.ensures.source) (c.give_bag-came.ensures.narrows image (own image h)) in
    let tells = λ (image : List ℕ) (h : g.S.PlacedBlocks.Holds c.into_source.result.blocks image). tells_known (Some image) c.args.about.now.len found.mdb.now (option_map (string_bytes {Z = Global}) c.args.about.now.line) words c.args.about.now.told facts (c.requires.told image (held image h)) c.as_str.ensures.value refl
    c.as_str-2.ensures.value c.text_in.ensures c.text_in-2.ensures refl refl c.as_str-3.ensures.value in
    let same = ap (λ (items : RescueItems (SeenBlocks g.row.S.Denot)). items.found) c.new-watched.ensures ∙ c.in-Ok.ensures.found in
    let planned = ap (λ (items : RescueItems (SeenBlocks g.row.S.Denot)). items.plan.items) c.new-watched.ensures ∙ c.in-Ok.ensures.plan in
    on_ok _ _ (EachKnown (g.S.PlacedBlocks.Holds c.into_source.result.blocks) (λ known. OfKnownBag known c.args.about.now.len (option_map (string_bytes {Z = Global}) c.args.about.now.line) words (λ (bag : List ShelfEntry). now ≡ before ++ bag))) (λ whole image h. given_bag image c.args.about.now.len (option_map (string_bytes {Z = Global}) c.args.about.now.line) words found made.found made.plan.items facts (λ (bag : List ShelfEntry). now ≡ before ++ bag)
    (c.requires.found image (held image h)) (tells image h) same planned (whole image (own image h))) c.give_bag-came.ensures.whole

pub returns-clause-fault : goal.returns-clause-fault
returns-clause-fault g c =
    let words = c.args.words.now in
    let found = c.args.found.now in
    let made = c.new-watched.result.items in
    let before = g.T.Shelf.given c.args.shelf.now in
    let now = g.T.Shelf.given c.give_bag-came.new.shelf in
    let facts : BagFacts = record {
      identifier = c.as_str.result;
      program = c.args.words.now.program;
      image = c.as_str-2.result;
      volume = c.text_in.result;
      directory = c.text_in-2.result;
      bytes = c.args.about.now.len;
      digest = c.args.about.now.told.digest;
      report = c.as_str-3.result;
    } in
    let own = λ (image : List ℕ) (h : g.S.PlacedBlocks.Holds c.into_source.result.blocks image). subst (λ (source : SeenBlocks g.row.S.Denot). g.S.PlacedBlocks.Holds source.blocks image)
    (c.into_source.ensures ∙ ap (λ (items : RescueItems (SeenBlocks g.row.S.Denot)). items.source) c.into_items.ensures) h in
    let held = λ (image : List ℕ) (h : g.S.PlacedBlocks.Holds c.into_source.result.blocks image). subst (λ (source : SeenBlocks g.row.S.Denot). g.S.PlacedBlocks.Holds source.blocks image)
    (ap (λ (items : RescueItems (SeenBlocks g.row.S.Denot)). items.source) c.new-watched.ensures ∙ c.in-Ok.ensures.source) (c.give_bag-came.ensures.narrows image (own image h)) in
    let tells = λ (image : List ℕ) (h : g.S.PlacedBlocks.Holds c.into_source.result.blocks image). tells_known (Some image) c.args.about.now.len found.mdb.now (option_map (string_bytes {Z = Global}) c.args.about.now.line) words c.args.about.now.told facts (c.requires.told image (held image h)) c.as_str.ensures.value refl
    c.as_str-2.ensures.value c.text_in.ensures c.text_in-2.ensures refl refl c.as_str-3.ensures.value in
    let same = ap (λ (items : RescueItems (SeenBlocks g.row.S.Denot)). items.found) c.new-watched.ensures ∙ c.in-Ok.ensures.found in
    let planned = ap (λ (items : RescueItems (SeenBlocks g.row.S.Denot)). items.plan.items) c.new-watched.ensures ∙ c.in-Ok.ensures.plan in
    let Shelf = g.T.Shelf.Fails (g.T.Shelf.place c.args.shelf.now) in
    if_err c.give_bag-came.result _ _ (λ why is. larger (λ _. ⊤) Shelf why
    (λ many image h. given_bag image c.args.about.now.len (option_map (string_bytes {Z = Global}) c.args.about.now.line) words found made.found made.plan.items facts (λ (bag : List ShelfEntry). AreTooMany (bytes_in bag))
    (c.requires.found image (held image h)) (tells image h) same planned (bag-large (map (planned_item image made.found) made.plan.items) (rescued_tables made.found) facts (many image (own image h))))
    (any-source _ Shelf _ why is)) c.give_bag-came.ensures.fault

pub returns-clause-narrows : goal.returns-clause-narrows
returns-clause-narrows g c =
    let words = c.args.words.now in
    let found = c.args.found.now in
    let made = c.new-watched.result.items in
    let before = g.T.Shelf.given c.args.shelf.now in
    let now = g.T.Shelf.given c.give_bag-came.new.shelf in
    let facts : BagFacts = record {
      identifier = c.as_str.result;
      program = c.args.words.now.program;
      image = c.as_str-2.result;
      volume = c.text_in.result;
      directory = c.text_in-2.result;
      bytes = c.args.about.now.len;
      digest = c.args.about.now.told.digest;
      report = c.as_str-3.result;
    } in
    let own = λ (image : List ℕ) (h : g.S.PlacedBlocks.Holds c.into_source.result.blocks image). subst (λ (source : SeenBlocks g.row.S.Denot). g.S.PlacedBlocks.Holds source.blocks image)
    (c.into_source.ensures ∙ ap (λ (items : RescueItems (SeenBlocks g.row.S.Denot)). items.source) c.into_items.ensures) h in
    let held = λ (image : List ℕ) (h : g.S.PlacedBlocks.Holds c.into_source.result.blocks image). subst (λ (source : SeenBlocks g.row.S.Denot). g.S.PlacedBlocks.Holds source.blocks image)
    (ap (λ (items : RescueItems (SeenBlocks g.row.S.Denot)). items.source) c.new-watched.ensures ∙ c.in-Ok.ensures.source) (c.give_bag-came.ensures.narrows image (own image h)) in
    let tells = λ (image : List ℕ) (h : g.S.PlacedBlocks.Holds c.into_source.result.blocks image). tells_known (Some image) c.args.about.now.len found.mdb.now (option_map (string_bytes {Z = Global}) c.args.about.now.line) words c.args.about.now.told facts (c.requires.told image (held image h)) c.as_str.ensures.value refl
    c.as_str-2.ensures.value c.text_in.ensures c.text_in-2.ensures refl refl c.as_str-3.ensures.value in
    let same = ap (λ (items : RescueItems (SeenBlocks g.row.S.Denot)). items.found) c.new-watched.ensures ∙ c.in-Ok.ensures.found in
    let planned = ap (λ (items : RescueItems (SeenBlocks g.row.S.Denot)). items.plan.items) c.new-watched.ensures ∙ c.in-Ok.ensures.plan in
    held
