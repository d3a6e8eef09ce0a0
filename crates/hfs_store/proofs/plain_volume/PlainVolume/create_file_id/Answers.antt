use Rattle.hfs_model.specs.FileIds.{create_file_id, set_thread}
use Rattle.hfs_store.proofs.Outcomes.{within, still_entries, changes_to_id}
use Rattle.hfs_store.proofs.plain_volume.PlainVolume.create_file_id.Goals as goal
use Rattle.std.proofs.Common.{true}

pub set_thread-requires : goal.set_thread-requires
set_thread-requires c = within c.self.inside c.args.self.now c.self.view_is c.self.invariant _ c.in-Ok.at c.in-Ok.ensures

pub invariant_of-self : goal.invariant_of-self
invariant_of-self c =
    still_entries c.self.inside c.args.self.now c.self.view_is c.self.invariant _ c.in-Ok.at c.in-Ok.ensures
    (set_thread true) c.set_thread.new.items.items c.set_thread.ensures

pub returns-in-Ok : goal.returns-in-Ok
unfolding create_file_id
returns-in-Ok c =
    changes_to_id c.self.inside c.args.self.now c.self.view_is c.self.invariant _ c.in-Ok.at c.in-Ok.ensures
    (set_thread true) c.set_thread.new.items.items c.args.now c.success.result c.entries.result.now c.index-entries-at.result c.entries.ensures.entries c.set_thread.ensures c.success.ensures
