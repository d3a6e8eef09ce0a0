use Rattle.std.proofs.Common.{arith}
use Rattle.hfs_remains_places.proofs.FolderLemmas.{knows-more}
use Rattle.hfs_remains_places.proofs.things.push_thing.Goals as goal

pub returns-clause-folders : goal.returns-clause-folders
returns-clause-folders c =
    knows-more c.args.folders.now c.note_folder.new.folders c.args.things.now.items c.push.new.self.items c.args.thing c.len-place.result (omega arith)
    c.in_ok-push.ensures.items c.in_ok-note_folder.ensures c.requires
