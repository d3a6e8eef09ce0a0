-- The bag that was given gets its place; a fault names what the words name, or a path in the folder that is written.
use Rattle.std.proofs.Common.{◌≡◌, ◌++◌, List, Global, OnOk, Result, inl, subst}
use Rattle.std.specs.Option.{option_map}
use Rattle.std.specs.Prelude.{IfErr, string_bytes}
use Rattle.hfs_bag.specs.declared.fault.BagFault.{BagFault}
use Rattle.hfs_bag.specs.Entries.{ShelfEntry}
use Rattle.hfs_source.specs.Seen.{EachKnown}
use Rattle.hfs_word_rescue.specs.declared.answer.RescueAnswer.{RescueAnswer}
use Rattle.hfs_bag.specs.MadeFolders.{given_by}
use Rattle.hfs_bag.specs.Told.{TellsWithin}
use Rattle.hfs_word_take.proofs.FaultLemmas.{of_bag, of_shelf, uncreated}
use Rattle.hfs_word_rescue.specs.Bags.{IsUnfilled, IsUngiven, OfKnownBag}
use Rattle.hfs_word_rescue.specs.Words.{as_take_words}
use Rattle.hfs_word_take.proofs.PlacedBagLemmas.{bag_away, stays_told, stays_ungiven}
use Rattle.hfs_word_rescue.proofs.PlacedLemmas.{back_source, bag-away, bag-placed, kept_source}
use Rattle.hfs_word_rescue.proofs.rescuing.write_bag.Goals as goal

pub returns-in-Err-clause-fault : goal.returns-in-Err-clause-fault
returns-in-Err-clause-fault g c =
    let words = as_take_words c.args.words.now in
    of_shelf words c.in-Err.back.fault c.of_shelf.result c.of_shelf.ensures (uncreated words.folder.now c.in-Err.back.fault c.in-Err.ensures.told)

pub returns-in-Err-answer-clause-fault : goal.returns-in-Err-answer-clause-fault
returns-in-Err-answer-clause-fault g c =
    let image = c.args.image in
    let line = option_map (string_bytes {Z = Global}) image.line in
    let new = string_bytes {Z = Global} c.in-Ok.shelf.folder in
    let fault = subst (λ (r : Result RescueAnswer BagFault). IfErr r (IsUnfilled (TellsWithin new) (g.S.PlacedBlocks.Holds c.give_remains-answer.result.source.blocks) image.len line c.args.words.now)) c.in-Err-answer.is
    c.give_remains-answer.ensures.fault in
    stays_told (as_take_words c.args.words.now) c.of_bag-told.result c.take_away-fault.result.fault c.take_away-fault.ensures.fault
    (of_bag (as_take_words c.args.words.now) c.in-Err-answer.fault c.of_bag-told.result new c.in-Ok.ensures.beside
    (λ why same. subst (IsUnfilled (TellsWithin new) (g.S.PlacedBlocks.Holds c.give_remains-answer.result.source.blocks) image.len line c.args.words.now) same fault)
    c.of_bag-told.ensures)

pub returns-in-Err-clause-away : goal.returns-in-Err-clause-away
returns-in-Err-clause-away g c = inl (c.in-Err.back.fault, c.of_shelf.ensures, c.in-Err.ensures.none)

pub returns-in-Err-answer-clause-away : goal.returns-in-Err-answer-clause-away
returns-in-Err-answer-clause-away g c =
    let image = c.args.image in
    let words = as_take_words c.args.words.now in
    let new = string_bytes {Z = Global} c.in-Ok.shelf.folder in
    let filled = c.give_remains-answer.new.shelf in
    let Ungiven = IsUngiven (g.S.PlacedBlocks.Holds c.give_remains-answer.result.source.blocks) image.len (option_map (string_bytes {Z = Global}) image.line) c.args.words.now in
    let given = subst (λ (r : Result RescueAnswer BagFault). IfErr r (Ungiven new)) c.in-Err-answer.is c.give_remains-answer.ensures.fault in
    bag_away words Ungiven new (string_bytes {Z = Global} filled.folder) c.take_away-fault.result.fault
    (g.Y.FileSystem.did c.args.system) (g.Y.FileSystem.did c.in-Ok.shelf.system) (g.Y.FileSystem.did filled.system) (g.Y.FileSystem.did c.take_away-fault.result.system)
    c.give_remains-answer.ensures.place c.in-Ok.ensures.made c.take_away-fault.ensures.away
    (stays_ungiven words (Ungiven new) c.in-Err-answer.fault c.of_bag-told.result c.take_away-fault.result.fault given c.of_bag-told.ensures c.take_away-fault.ensures.fault)

pub returns-in-Ok-answer-clause-placed : goal.returns-in-Ok-answer-clause-placed
returns-in-Ok-answer-clause-placed g c =
    let image = c.args.image in
    let shelf = c.in-Ok.shelf in
    let filled = c.give_remains-answer.new.shelf in
    bag-placed (λ placed. g.S.PlacedBlocks.Holds placed.source.blocks) (g.S.PlacedBlocks.Holds c.give_remains-answer.result.source.blocks) image.len (option_map (string_bytes {Z = Global}) image.line) c.args.words.now (string_bytes {Z = Global} shelf.folder)
    (string_bytes {Z = Global} filled.folder) (given_by (string_bytes {Z = Global} shelf.folder) shelf.modified (g.Y.FileSystem.did shelf.system))
    (given_by (string_bytes {Z = Global} filled.folder) filled.modified (g.Y.FileSystem.did filled.system))
    (g.Y.FileSystem.did c.args.system) (g.Y.FileSystem.did shelf.system) (g.Y.FileSystem.did filled.system) (λ placed. g.Y.FileSystem.did placed.system) c.place_bag.result
    c.in-Ok.ensures.empty c.give_remains-answer.ensures.place c.in-Ok.ensures.made (subst (λ (r : Result RescueAnswer BagFault). OnOk r (EachKnown (g.S.PlacedBlocks.Holds c.give_remains-answer.result.source.blocks) (λ known. OfKnownBag known image.len (option_map (string_bytes {Z = Global}) image.line) c.args.words.now (λ (bag : List ShelfEntry). given_by (string_bytes {Z = Global} filled.folder) filled.modified (g.Y.FileSystem.did filled.system) ≡ given_by (string_bytes {Z = Global} shelf.folder) shelf.modified (g.Y.FileSystem.did shelf.system) ++ bag)))) c.in-Ok-answer.is c.give_remains-answer.ensures.whole) c.place_bag.ensures.placed
    (kept_source (λ placed. placed.source) c.give_remains-answer.result.source (λ source image. g.S.PlacedBlocks.Holds source.blocks image) c.place_bag.result c.place_bag.ensures.source)

pub returns-in-Ok-answer-clause-away : goal.returns-in-Ok-answer-clause-away
returns-in-Ok-answer-clause-away g c =
    let image = c.args.image in
    let shelf = c.in-Ok.shelf in
    let filled = c.give_remains-answer.new.shelf in
    bag-away (as_take_words c.args.words.now)
    (λ source. IsUngiven (g.S.PlacedBlocks.Holds source.blocks) image.len (option_map (string_bytes {Z = Global}) image.line) c.args.words.now) (λ back. back.source)
    (string_bytes {Z = Global} shelf.folder) (string_bytes {Z = Global} filled.folder) (λ back. back.fault) (λ back. g.Y.FileSystem.did back.system)
    (g.Y.FileSystem.did c.args.system) (g.Y.FileSystem.did shelf.system) (g.Y.FileSystem.did filled.system) c.place_bag.result c.give_remains-answer.ensures.place c.in-Ok.ensures.made
    c.place_bag.ensures.away c.place_bag.ensures.told

pub returns-in-Ok-answer-clause-back : goal.returns-in-Ok-answer-clause-back
returns-in-Ok-answer-clause-back g c =
    back_source (λ back. back.source) c.give_remains-answer.result.source (λ source image. g.S.PlacedBlocks.Holds source.blocks image)
    (g.S.PlacedBlocks.Holds c.args.image.source.blocks) c.place_bag.result c.give_remains-answer.ensures.narrows c.place_bag.ensures.back
