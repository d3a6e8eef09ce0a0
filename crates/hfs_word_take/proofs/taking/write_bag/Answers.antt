-- A fault of the bag names what the words name, or a path in the folder that is written; and what was written is taken away.
use Rattle.std.proofs.Common.{◌≡◌, List, ◌++◌, Global, Result, OnOk, IfErr, subst, inl, inr}
use Rattle.hfs_bag.specs.declared.fault.BagFault.{BagFault}
use Rattle.hfs_bag.specs.declared.sums.BagSums.{BagSums}
use Rattle.hfs_bag.specs.Entries.{ShelfEntry}
use Rattle.hfs_source.specs.Images.{OfEach}
use Rattle.hfs_word_take.specs.Bags.{OfBag}
use Rattle.hfs_word_take.specs.Digests.{HoldsBeside}
use Rattle.std.specs.Option.{option_map}
use Rattle.std.specs.Prelude.{string_bytes}
use Rattle.hfs_bag.specs.Told.{TellsWithin}
use Rattle.hfs_word_take.specs.TakeFaults.{IsFillFault, IsUngiven}
use Rattle.hfs_word_take.proofs.FaultLemmas.{of_bag, of_shelf, uncreated}
use Rattle.hfs_word_take.proofs.PlacedBagLemmas.{bag_away, placed-bag, stays_told, stays_ungiven}
use Rattle.hfs_bag.specs.MadeFolders.{given_by}
use Rattle.hfs_word_take.proofs.taking.write_bag.Goals as goal

pub returns-in-Err-clause-fault : goal.returns-in-Err-clause-fault
returns-in-Err-clause-fault g c =
    of_shelf c.args.words.now c.in-Err.back.fault c.of_shelf.result c.of_shelf.ensures (uncreated c.args.words.now.folder.now c.in-Err.back.fault c.in-Err.ensures.told)

pub returns-in-Err-clause-away : goal.returns-in-Err-clause-away
returns-in-Err-clause-away g c = inl (c.in-Err.back.fault, c.of_shelf.ensures, c.in-Err.ensures.none)

pub returns-in-Err-sums-clause-fault : goal.returns-in-Err-sums-clause-fault
returns-in-Err-sums-clause-fault g c =
    let new = string_bytes {Z = Global} c.in-Ok.shelf.folder in
    let given = subst (λ (sums : Result BagSums BagFault). IfErr sums (IsFillFault (TellsWithin new) (g.S.PlacedBlocks.Holds c.give_image-sums.result.image))) c.in-Err-sums.is
    c.give_image-sums.ensures.fault in
    stays_told c.args.words.now c.of_bag-told.result c.take_away-fault.result.fault c.take_away-fault.ensures.fault
    (of_bag c.args.words.now c.in-Err-sums.fault c.of_bag-told.result new c.in-Ok.ensures.beside
    (λ why same. subst (IsFillFault (TellsWithin new) (g.S.PlacedBlocks.Holds c.give_image-sums.result.image)) same given) c.of_bag-told.ensures)

pub returns-in-Err-sums-clause-away : goal.returns-in-Err-sums-clause-away
returns-in-Err-sums-clause-away g c =
    let new = string_bytes {Z = Global} c.in-Ok.shelf.folder in
    let filled = c.give_image-sums.new.shelf in
    let Ungiven = IsUngiven (g.S.PlacedBlocks.Holds c.give_image-sums.result.image) in
    let given = subst (λ (sums : Result BagSums BagFault). IfErr sums (Ungiven new)) c.in-Err-sums.is c.give_image-sums.ensures.fault in
    bag_away c.args.words.now Ungiven new (string_bytes {Z = Global} filled.folder) c.take_away-fault.result.fault
    (g.Y.FileSystem.did c.args.system) (g.Y.FileSystem.did c.in-Ok.shelf.system) (g.Y.FileSystem.did filled.system) (g.Y.FileSystem.did c.take_away-fault.result.system)
    c.give_image-sums.ensures.place c.in-Ok.ensures.made c.take_away-fault.ensures.away
    (stays_ungiven c.args.words.now (Ungiven new) c.in-Err-sums.fault c.of_bag-told.result c.take_away-fault.result.fault given c.of_bag-told.ensures
    c.take_away-fault.ensures.fault)

pub returns-in-Ok-place_bag-clause-placed : goal.returns-in-Ok-place_bag-clause-placed
returns-in-Ok-place_bag-clause-placed g c =
    let shelf = c.in-Ok.shelf in
    let filled = c.give_image-sums.new.shelf in
    let Holds = g.S.PlacedBlocks.Holds c.give_image-sums.result.image in
    let Beside = HoldsBeside g.S.PlacedBlocks.Holds c.give_image-sums.result.beside in
    let line = option_map (string_bytes {Z = Global}) c.args.image.volume in
    let before = given_by (string_bytes {Z = Global} shelf.folder) shelf.modified (g.Y.FileSystem.did shelf.system) in
    let given = given_by (string_bytes {Z = Global} filled.folder) filled.modified (g.Y.FileSystem.did filled.system) in
    let whole = subst (λ (sums : Result BagSums BagFault). OnOk sums (OfEach Holds (OfBag line c.args.words.now Beside (λ (bag : List ShelfEntry). given ≡ before ++ bag)))) c.in-Ok-sums.is
    c.give_image-sums.ensures.whole in
    placed-bag Holds Beside line c.args.words.now c.args.words.now.folder.now (string_bytes {Z = Global} shelf.folder) (string_bytes {Z = Global} filled.folder) before given
    (g.Y.FileSystem.did c.args.system) (g.Y.FileSystem.did shelf.system) (g.Y.FileSystem.did filled.system) (g.Y.FileSystem.did c.in-Ok-place_bag.system)
    c.in-Ok.ensures.empty c.give_image-sums.ensures.place c.in-Ok.ensures.made whole c.in-Ok-place_bag.ensures.placed

pub returns-in-Err-place_bag-clause-away : goal.returns-in-Err-place_bag-clause-away
returns-in-Err-place_bag-clause-away g c =
    let filled = c.give_image-sums.new.shelf in
    bag_away c.args.words.now (IsUngiven (g.S.PlacedBlocks.Holds c.give_image-sums.result.image)) (string_bytes {Z = Global} c.in-Ok.shelf.folder)
    (string_bytes {Z = Global} filled.folder) c.in-Err-place_bag.field-0.fault
    (g.Y.FileSystem.did c.args.system) (g.Y.FileSystem.did c.in-Ok.shelf.system) (g.Y.FileSystem.did filled.system) (g.Y.FileSystem.did c.in-Err-place_bag.field-0.system)
    c.give_image-sums.ensures.place c.in-Ok.ensures.made c.in-Err-place_bag.ensures.away (inr (inl c.in-Err-place_bag.ensures.told))
