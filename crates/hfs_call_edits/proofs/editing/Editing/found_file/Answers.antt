-- The file is the one whose first Finder bytes might be set.
use Rattle.hfs_check.specs.VolumeOf.{volume_in}
use Rattle.hfs_model.specs.ForkCalls.{file_to_write}
use Rattle.hfs_call_edits.proofs.ForkEdits.{finds_file, found_in}
use Rattle.hfs_call_edits.proofs.editing.Editing.found_file.Goals as goal

pub returns-clause-found : goal.returns-clause-found
returns-clause-found g c =
    finds_file (g.B.Blocks.blocks c.args.self.now) c.args.dir c.args.name.now c.file_to_set.result c.file_to_set.ensures.chosen c.file_to_set.ensures.place

pub returns-clause-there : goal.returns-clause-there
returns-clause-there g c =
    let old = g.B.Blocks.blocks c.args.self.now in
    found_in old (file_to_write (volume_in old) c.args.dir c.args.name.now) c.file_to_set.result
    (finds_file old c.args.dir c.args.name.now c.file_to_set.result c.file_to_set.ensures.chosen c.file_to_set.ensures.place)
