-- What is given is the bag of each image that holds.
use Rattle.std.proofs.Common.{◌≡◌, List, ◌++◌, None, Global, ap, refl, sym, subst, rules, ◌∙◌}
use Rattle.std.specs.Prelude.{⊤, string_bytes}
use Rattle.std.specs.Option.{option_map}
use Rattle.hfs_bag.proofs.FaultLemmas.{any-source, larger}
use Rattle.hfs_bag.proofs.Growing.{each_err}
use Rattle.hfs_bag.proofs.HalfLemmas.{bag_part, bag_whole}
use Rattle.hfs_bag.specs.declared.facts.BagFacts.{BagFacts}
use Rattle.hfs_bag.specs.Items.{BagItem}
use Rattle.hfs_bag.specs.Payloads.{IsPayloadOf}
use Rattle.hfs_bag.specs.Sums.{IsSumOf}
use Rattle.hfs_word_take.specs.Sources.{source_of}
use Rattle.hfs_texts.specs.PlainTexts.{plain_text}
use Rattle.hfs_bag.specs.Entries.{IsBeginning, ShelfEntry}
use Rattle.hfs_word_take.specs.Digests.{HoldsBeside}
use Rattle.hfs_word_take.specs.TakeFaults.{IsFillFault}
use Rattle.hfs_word_take.proofs.BagLemmas.{nothing_given, of_facts, payload_part}
use Rattle.hfs_word_take.proofs.ToldLemmas.{tells_of}
use Rattle.hfs_word_take.proofs.giving.give_items.Goals as goal

pub returns-in_err-identifier-clause-part : goal.returns-in_err-identifier-clause-part
returns-in_err-identifier-clause-part g c = each_err _ (g.S.PlacedBlocks.Holds c.args.watched.now.items.source.image)
    (λ image h. nothing_given image (option_map (string_bytes {Z = Global}) c.args.about.now.volume) c.args.words.now (HoldsBeside g.S.PlacedBlocks.Holds c.args.beside.now) (g.T.Shelf.given c.args.shelf.now))

pub returns-in_err-first-clause-part : goal.returns-in_err-first-clause-part
returns-in_err-first-clause-part g c = each_err _ (g.S.PlacedBlocks.Holds c.give_first.new.items.items.source.image)
    (λ image h. payload_part image (option_map (string_bytes {Z = Global}) c.args.about.now.volume) c.args.words.now (HoldsBeside g.S.PlacedBlocks.Holds c.give_first.new.beside) (g.T.Shelf.given c.args.shelf.now) (g.T.Shelf.given c.give_first.new.shelf)
    (c.in_err-first.ensures.part image h))

pub give_tag_files-requires : goal.give_tag_files-requires
give_tag_files-requires g c = λ image h.
    subst (λ (all : List BagItem). IsPayloadOf c.in_ok-first.first.0 all) (sym (c.in_ok-first.ensures.kept image h).all) (c.in_ok-first.ensures.told image h)

pub returns-in_err-sums-clause-part : goal.returns-in_err-sums-clause-part
returns-in_err-sums-clause-part g c = each_err _ (g.S.PlacedBlocks.Holds c.give_tag_files.new.source.items.source.image) (λ image h.
    let items = c.args.watched.now.items in
    let told = c.args.about.now.told in
    let after = c.give_first.new.items.items in
    let before = g.T.Shelf.given c.args.shelf.now in
    let first = g.T.Shelf.given c.give_first.new.shelf in
    let now = g.T.Shelf.given c.give_tag_files.new.shelf in
    let was = c.in_err-sums.ensures.narrows image h in
    let old = c.in_ok-first.ensures.narrows image was in
    let facts : BagFacts = record {
      identifier = c.as_str.result;
      program = c.args.words.now.program;
      image = c.as_str-2.result;
      volume = c.text_in.result;
      directory = None;
      bytes = c.args.about.now.len;
      digest = c.in_ok-first.first.1;
      report = c.as_str-3.result;
    } in
    let tells = tells_of image c.args.about.now.len (option_map (string_bytes {Z = Global}) c.args.about.now.volume) c.args.words.now c.in_ok-first.first.1 facts items.root (c.requires.root image old) (c.requires.len image old)
    (c.as_str.ensures.value ∙ c.in_ok-identifier.ensures ∙ ap plain_text c.bytes.ensures.bytes) refl (c.as_str-2.ensures.value ∙ (c.requires.told.1 image old).name_is) c.text_in.ensures refl refl
    refl
    (c.as_str-3.ensures.value ∙ (c.requires.told.1 image old).report_is) in
    of_facts image (option_map (string_bytes {Z = Global}) c.args.about.now.volume) c.args.words.now (HoldsBeside g.S.PlacedBlocks.Holds c.give_first.new.beside) c.in_ok-first.first.1 facts (λ (bag : List ShelfEntry). IsBeginning now (before ++ bag)) (c.in_ok-first.ensures.digest image was (c.requires.len image old)) tells
    (bag_part before first now (source_of items.rows.left items.came items.reading image) (source_of after.rows.left after.came after.reading image) facts
    (c.in_ok-first.ensures.kept image was) (c.in_ok-first.ensures.whole image was) (c.in_err-sums.ensures.part image h)))

pub returns-clause-whole : goal.returns-clause-whole
returns-clause-whole g c = λ image h.
    let items = c.args.watched.now.items in
    let after = c.give_first.new.items.items in
    let before = g.T.Shelf.given c.args.shelf.now in
    let first = g.T.Shelf.given c.give_first.new.shelf in
    let now = g.T.Shelf.given c.give_tag_files.new.shelf in
    let was = c.in_ok-sums.ensures.narrows image h in
    let old = c.in_ok-first.ensures.narrows image was in
    let facts : BagFacts = record {
      identifier = c.as_str.result;
      program = c.args.words.now.program;
      image = c.as_str-2.result;
      volume = c.text_in.result;
      directory = None;
      bytes = c.args.about.now.len;
      digest = c.in_ok-first.first.1;
      report = c.as_str-3.result;
    } in
    let tells = tells_of image c.args.about.now.len (option_map (string_bytes {Z = Global}) c.args.about.now.volume) c.args.words.now c.in_ok-first.first.1 facts items.root (c.requires.root image old) (c.requires.len image old)
    (c.as_str.ensures.value ∙ c.in_ok-identifier.ensures ∙ ap plain_text c.bytes.ensures.bytes) refl (c.as_str-2.ensures.value ∙ (c.requires.told.1 image old).name_is) c.text_in.ensures refl refl
    refl
    (c.as_str-3.ensures.value ∙ (c.requires.told.1 image old).report_is) in
    of_facts image (option_map (string_bytes {Z = Global}) c.args.about.now.volume) c.args.words.now (HoldsBeside g.S.PlacedBlocks.Holds c.give_first.new.beside) c.in_ok-first.first.1 facts (λ (bag : List ShelfEntry). now ≡ before ++ bag) (c.in_ok-first.ensures.digest image was (c.requires.len image old)) tells
    (bag_whole before first now (source_of items.rows.left items.came items.reading image) (source_of after.rows.left after.came after.reading image) facts
    (c.in_ok-first.ensures.kept image was) (c.in_ok-first.ensures.whole image was) (c.in_ok-sums.ensures.whole image h))

pub returns-clause-sums : goal.returns-clause-sums
returns-clause-sums g c = λ image h.
    subst (IsSumOf c.in_ok-sums.sums) (c.in_ok-first.ensures.kept image (c.in_ok-sums.ensures.narrows image h)).all (c.in_ok-sums.ensures.sums image h)

pub returns-in_err-sums-clause-fault : goal.returns-in_err-sums-clause-fault
returns-in_err-sums-clause-fault g c =
    let Holds = g.S.PlacedBlocks.Holds c.give_tag_files.new.source.items.source.image in
    let Shelf = g.T.Shelf.Fails (g.T.Shelf.place c.give_first.new.shelf) in
    let passed = any-source _ Shelf ⊥ c.in_err-sums.field-0.0 c.in_err-sums.ensures.fault in
    let fault : IsFillFault Shelf Holds c.in_err-sums.field-0.0 = larger (λ _. ⊤) Shelf c.in_err-sums.field-0.0 (λ never. absurd never) passed in
    search rules
