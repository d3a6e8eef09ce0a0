-- What is told of the file that is handed back.
use Rattle.hfs_commands.specs.declared.opened_file.OpenedFile.TheVariants.{Plain}
use Rattle.hfs_commands.proofs.PartLemmas.{plain_laid}
use Rattle.hfs_commands.proofs.UnopenedVolumes.{no_volume}
use Rattle.hfs_commands.proofs.watched_volume.volume_in.Goals as goal

pub returns-in-Err-clause-told : goal.returns-in-Err-clause-told
returns-in-Err-clause-told g c =
    let file = c.place_asked.new.source in
    no_volume c.args.path c.args.number (Plain file) c.in-Err.fault c.with_file.result c.with_file.ensures.fault c.with_file.ensures.left
    (plain_laid c.args.file.source file c.requires.plain c.in-Err.ensures.held) c.in-Err.ensures.told
