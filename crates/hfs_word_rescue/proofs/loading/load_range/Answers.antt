-- The sum that was told is that of the blocks; a range that doesn't lie in its file has no bytes, and nothing is found of it.
use Rattle.std.proofs.Common.{◌≡◌, ◌≢◌, Global, Some, rules, string_bytes, subst, sym}
use Rattle.std.specs.Option.{option_map}
use Rattle.hfs_check.specs.declared.mount_fault.MountFault.TheVariants.{Short}
use Rattle.hfs_commands.specs.OpenedFiles.{images_of}
use Rattle.hfs_commands.specs.SeenFiles.{parts_of}
use Rattle.hfs_commands.proofs.SeenLemmas.{blocks_of_same}
use Rattle.hfs_image.specs.Kept.{IsSameRange}
use Rattle.hfs_image.proofs.KeptLemmas.{range_narrows}
use Rattle.hfs_source.specs.declared.asking.Counted.TheVariants.{Ranges}
use Rattle.hfs_source.specs.Images.{OfEach}
use Rattle.hfs_word_rescue.specs.declared.image.HoldFault.TheVariants.{NoDirectory}
use Rattle.hfs_word_rescue.specs.Faults.{HasNoDirectory}
use Rattle.hfs_word_take.specs.Opening.{TellsPartIn, window_at}
use Rattle.hfs_word_take.proofs.PartLines.{told_in_part}
use Rattle.hfs_word_rescue.proofs.RangeLemmas.{none_outside}
use Rattle.hfs_word_rescue.proofs.loading.load_range.Goals as goal

pub returns-else-image-range-clause-found : goal.returns-else-image-range-clause-found
returns-else-image-range-clause-found g c =
    let found = c.args.found in
    let image = c.in-Ok.image in
    let volume = c.args.words.now.volume in
    let part = window_at found.range found.source in
    let same : image.len ≡ found.range.len = search rules in
    let told : image.line ≡ found.line = search rules in
    let are = blocks_of_same part found.source.blocks image.source.blocks c.requires.part c.in-Ok.ensures.same in
    subst (λ line. TellsPartIn image.source.blocks Ranges volume image.len (option_map (string_bytes {Z = Global}) line) found.sum)
    (sym told)
    (told_in_part part image.source.blocks are image.len image.long same Ranges volume (option_map (string_bytes {Z = Global}) found.line) found.sum c.requires.found)

pub returns-then-image-range-clause-told : goal.returns-then-image-range-clause-told
returns-then-image-range-clause-told g c =
    let found = c.args.found in
    let image = c.in-Ok.image in
    let other : image.len ≢ found.range.len = search rules in
    let none : OfEach (parts_of image.source.blocks) (HasNoDirectory (Some Short)) =
    none_outside (images_of found.source.blocks.bytes.bytes) (parts_of image.source.blocks) found.range found.source.blocks.bytes.start
    found.source.blocks.bytes.len (range_narrows images_of found.source.blocks.bytes image.source.blocks.bytes c.in-Ok.ensures.same)
    c.requires.part.range image.len image.long other image.finds image.finds_are (Some Short) in
    let own : c.out_of_range.result.source ≡ image.source = c.out_of_range.ensures.source in
    (NoDirectory (Some Short), subst (λ source. OfEach (parts_of source.blocks) (HasNoDirectory (Some Short))) (sym own) none, c.out_of_range.ensures.fault)

pub returns-then-image-range-clause-back : goal.returns-then-image-range-clause-back
returns-then-image-range-clause-back g c =
    let own : c.out_of_range.result.source ≡ c.in-Ok.image.source = c.out_of_range.ensures.source in
    subst (λ source. IsSameRange images_of c.args.found.source.blocks.bytes source.blocks.bytes) (sym own) c.in-Ok.ensures.same
