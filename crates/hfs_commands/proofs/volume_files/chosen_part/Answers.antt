-- All of a file is all of the bytes in which volumes are looked for.
use Rattle.hfs_commands.proofs.PartLemmas.{content_whole}
use Rattle.hfs_commands.proofs.volume_files.chosen_part.Goals as goal

pub part_of-requires-clause-all : goal.part_of-requires-clause-all
part_of-requires-clause-all g c =
    content_whole c.args.bytes.source c.args.bytes.range c.in_ok-content.content.range c.in_ok-content.content.source c.requires.all
    c.in_ok-content.ensures.held c.in_ok-content.ensures.range
