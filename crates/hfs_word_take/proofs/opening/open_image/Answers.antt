-- A volume that isn't opened is refused, or was not read; the blocks of one that is are those of the range of which the line was told.
use Rattle.std.proofs.Common.{◌≡◌, Global, rules, string_bytes, subst, sym}
use Rattle.std.specs.Option.{option_map}
use Rattle.std.specs.Prelude.{IfSome}
use Rattle.hfs_commands.specs.OpenedFiles.{images_of}
use Rattle.hfs_commands.specs.Unopened.{HasNoPart}
use Rattle.hfs_commands.proofs.SeenLemmas.{blocks_of_same}
use Rattle.hfs_source.specs.declared.asking.Counted.TheVariants.{Volumes}
use Rattle.hfs_word_take.specs.Opening.{AreBlocksBeside, HasOpenedPart, window_at}
use Rattle.hfs_word_take.proofs.FaultLemmas.{of_needed, untaken_part}
use Rattle.hfs_word_take.proofs.PartLines.{length_if_sound, opened_part, seen_of_told}
use Rattle.hfs_word_take.proofs.opening.open_image.Goals as goal

pub open_found-requires : goal.open_found-requires
open_found-requires g c =
    let found = c.in_ok-source.field-0 in
    let part = found.source.blocks.bytes in
    length_if_sound (images_of part.bytes) found.range part.start part.len c.in_ok-source.ensures.part.range

pub returns-in-Err-clause-fault : goal.returns-in-Err-clause-fault
returns-in-Err-clause-fault g c =
    let is = c.in-Err.ensures.told in
    of_needed c.args.words.now is.why c.in-Err.field-0.fault is.told

pub returns-in-Err-clause-told : goal.returns-in-Err-clause-told
returns-in-Err-clause-told g c =
    let found = c.in_ok-source.field-0 in
    let left = c.in-Err.field-0.source in
    let volume = c.args.words.now.volume in
    let part = window_at found.range found.source in
    let are = blocks_of_same part found.source.blocks left.blocks c.in_ok-source.ensures.part c.in-Err.ensures.back in
    untaken_part c.args.words.now.image (HasNoPart Volumes volume) Volumes volume _ _ left c.in-Err.field-0.fault c.in-Err.ensures.told
    (seen_of_told part left.blocks Volumes volume (option_map (string_bytes {Z = Global}) found.line) found.sum c.in_ok-source.ensures.found are)

pub returns-in-Ok-clause-found : goal.returns-in-Ok-clause-found
returns-in-Ok-clause-found g c =
    let found = c.in_ok-source.field-0 in
    let image = c.in-Ok.image in
    let volume = c.args.words.now.volume in
    let part = window_at found.range found.source in
    let same : image.len ≡ found.range.len = search rules in
    let told : image.volume ≡ found.line = search rules in
    let are = blocks_of_same part found.source.blocks image.opened c.in_ok-source.ensures.part c.in-Ok.ensures.same in
    let again = subst (λ beside. IfSome beside (AreBlocksBeside part)) (sym c.in-Ok.ensures.beside) c.in_ok-source.ensures.beside in
    subst (λ line. HasOpenedPart image.opened image.beside Volumes volume image.len (option_map (string_bytes {Z = Global}) line) found.sum)
    (sym told)
    (opened_part part image.opened image.beside are image.len image.len_is same Volumes volume (option_map (string_bytes {Z = Global}) found.line) found.sum
    c.in_ok-source.ensures.found again)
