-- What was asked for is what the line tells.
use Rattle.std.proofs.Common.{Global, string_bytes}
use Rattle.std.specs.Option.{option_map}
use Rattle.hfs_word_take.proofs.PartLines.{laid_at, told_of_part}
use Rattle.hfs_word_take.proofs.opening.find_part.Goals as goal

pub told_part-requires : goal.told_part-requires
told_part-requires g c = laid_at c.args.counted c.args.volume c.in_ok-part.part c.in_ok-part.ensures.asked

pub returns-clause-part : goal.returns-clause-part
returns-clause-part g c =
    let part = c.in_ok-part.part in
    let found = c.in_ok-found.found in
    told_of_part c.args.counted c.args.volume part found.bytes (option_map (string_bytes {Z = Global}) found.line) found.sum
    c.in_ok-part.ensures.answer c.in_ok-part.ensures.asked c.in_ok-part.ensures.all c.in_ok-found.ensures.range c.in_ok-found.ensures.layout
    c.in_ok-found.ensures.laid_out c.in_ok-found.ensures.held c.in_ok-found.ensures.whole c.in_ok-found.ensures.line c.in_ok-found.ensures.sum
