-- All of a file is all of the bytes in which volumes are looked for.
use Rattle.hfs_commands.proofs.PartLemmas.{content_whole}
use Rattle.hfs_commands.proofs.volume_files.open_asked.Goals as goal

pub part_of-requires-clause-all : goal.part_of-requires-clause-all
part_of-requires-clause-all g c =
    content_whole c.in_ok-file.file.source c.in_ok-file.file.range c.in_ok-content-in-Some.content.range c.in_ok-content-in-Some.content.source
    c.in_ok-file.ensures.all c.in_ok-content-in-Some.ensures.held c.in_ok-content-in-Some.ensures.range
