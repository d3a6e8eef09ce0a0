use Rattle.hfs_model.specs.FileIds.{delete_file_id, set_thread}
use Rattle.hfs_store.proofs.Outcomes.{within, still_entries, changes}
use Rattle.hfs_store.proofs.plain_volume.PlainVolume.delete_file_id.Goals as goal
use Rattle.std.proofs.Common.{false}

pub set_thread-requires : goal.set_thread-requires
set_thread-requires c = within c.self.inside c.args.self.now c.self.view_is c.self.invariant _ c.in-Ok.at c.in-Ok.ensures

pub invariant_of-self : goal.invariant_of-self
invariant_of-self c =
    still_entries c.self.inside c.args.self.now c.self.view_is c.self.invariant _ c.in-Ok.at c.in-Ok.ensures
    (set_thread false) c.set_thread.new.items.items c.set_thread.ensures

pub returns-in-Ok : goal.returns-in-Ok
unfolding delete_file_id
returns-in-Ok c =
    changes c.self.inside c.args.self.now c.self.view_is c.self.invariant _ c.in-Ok.at c.in-Ok.ensures
    (set_thread false) c.set_thread.new.items.items c.args.now c.success.result c.set_thread.ensures c.success.ensures
