-- What was gathered tells of the file that each image has, and both its forks are found by it.
use Rattle.std.proofs.Common.{None}
use Rattle.hfs_model.specs.declared.call.Fork.TheVariants.{DataFork, ResFork}
use Rattle.hfs_image.proofs.SeenFiles.{fork-seen, refuses-seen, told-seen}
use Rattle.hfs_check.proofs.LawsProved.{no_blocks_fault}
use Rattle.hfs_image.proofs.LawsProved.{gathered_is_enough}
use Rattle.hfs_items.proofs.QueryLawsProved.{catalog_answers-entries}
use Rattle.hfs_image.proofs.whole_files.opened_file.Goals as goal

pub returns-in-Err-clause-found : goal.returns-in-Err-clause-found
returns-in-Err-clause-found g c = λ image h.
    let Holds = g.S.BlockSource.Holds c.args.source.now in
    let volume = c.args.volume.now in
    record {
      data_fork = refuses-seen no_blocks_fault gathered_is_enough catalog_answers-entries Holds volume None c.requires.opened c.requires.seen image h
          c.args.dir c.args.name.now DataFork c.in-Err.reply c.in-Err.ensures.found;
      resource_fork = refuses-seen no_blocks_fault gathered_is_enough catalog_answers-entries Holds volume None c.requires.opened c.requires.seen image h
          c.args.dir c.args.name.now ResFork c.in-Err.reply c.in-Err.ensures.found;
    }

pub returns-in-Ok-read_file-clause-found : goal.returns-in-Ok-read_file-clause-found
returns-in-Ok-read_file-clause-found g c = λ image h.
    let Holds = g.S.BlockSource.Holds c.args.source.now in
    let volume = c.args.volume.now in
    let middle = c.in-Ok-read_file.ensures.narrows image h in
    let first = c.in_ok-data.ensures.narrows image middle in
    record {
      told = told-seen no_blocks_fault gathered_is_enough catalog_answers-entries Holds volume None c.requires.opened c.requires.seen image first
          c.args.dir c.args.name.now c.tell_of-told.result c.tell_of-told.ensures;
      data_fork = fork-seen no_blocks_fault gathered_is_enough catalog_answers-entries Holds volume None c.requires.opened c.requires.seen image first
          c.args.dir c.args.name.now DataFork c.in-Ok.file c.in-Ok.ensures.found c.in_ok-data.data.items (c.in_ok-data.ensures.bytes image middle);
      resource_fork = fork-seen no_blocks_fault gathered_is_enough catalog_answers-entries Holds volume None c.requires.opened c.requires.seen image first
          c.args.dir c.args.name.now ResFork c.in-Ok.file c.in-Ok.ensures.found c.in-Ok-read_file.resource.items (c.in-Ok-read_file.ensures.bytes image h);
    }
