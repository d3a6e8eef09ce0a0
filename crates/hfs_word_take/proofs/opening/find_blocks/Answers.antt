-- The blocks are read from the file of which the line was told.
use Rattle.std.proofs.Common.{◌≡◌, Global, rules, string_bytes, subst, sym}
use Rattle.std.specs.Option.{option_map}
use Rattle.hfs_source.specs.declared.asking.Counted.TheVariants.{Volumes}
use Rattle.hfs_word_take.specs.Opening.{TellsPart}
use Rattle.hfs_word_take.proofs.opening.find_blocks.Goals as goal

pub returns-clause-found : goal.returns-clause-found
returns-clause-found g c =
    let found = c.in_ok-bytes.field-0 in
    let own : c.part_blocks.result.blocks.bytes.bytes ≡ found.bytes.source = search rules in
    subst
    (λ file. TellsPart (record { source = file; range = found.bytes.range }) Volumes c.args.words.now.volume (option_map (string_bytes {Z = Global}) found.line) found.sum)
    (sym own) c.in_ok-bytes.ensures.part
