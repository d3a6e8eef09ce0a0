-- The patch makes the call's step, and the call answers nothing.
use Rattle.hfs_call_edits.proofs.DeletedChange.{file_change}
use Rattle.hfs_call_edits.proofs.editing.Editing.delete_file.Goals as goal

pub returns : goal.returns
returns g c =
    file_change g.B.Blocks.blocks g.B.Blocks.total c.args.self.now c.self.inside.volume.blocks.now c.self.view_is c.args.parent.now.id c.args.now c.args.key.now c.args.file.now
    c.in_ok-made.made.1 c.in_ok-made.made.0 c.in_ok-made.ensures.within c.in_ok-made.ensures.makes
