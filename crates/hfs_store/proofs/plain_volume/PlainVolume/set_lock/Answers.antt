use Rattle.std.specs.FinMap as map
use Rattle.hfs_model.specs.Volume.{Entry, Items}
use Rattle.hfs_model.specs.Changes.{set_lock, with_lock}
use Rattle.hfs_store.proofs.Outcomes.{within, still_entries, changes}
use Rattle.hfs_store.proofs.plain_volume.PlainVolume.set_lock.Goals as goal

pub set_lock-requires : goal.set_lock-requires
set_lock-requires c = within c.self.inside c.args.self.now c.self.view_is c.self.invariant _ c.in-Ok.at c.in-Ok.ensures

pub invariant_of-self : goal.invariant_of-self
invariant_of-self c =
    still_entries c.self.inside c.args.self.now c.self.view_is c.self.invariant _ c.in-Ok.at c.in-Ok.ensures
    (λ (e : Entry) (m : Items). map.insert m e.0 (record e.1 { kind = with_lock c.args.locked e.1.kind })) c.set_lock.new.items.items c.set_lock.ensures

pub returns-in-Ok : goal.returns-in-Ok
unfolding set_lock
returns-in-Ok c =
    changes c.self.inside c.args.self.now c.self.view_is c.self.invariant _ c.in-Ok.at c.in-Ok.ensures
    (λ (e : Entry) (m : Items). map.insert m e.0 (record e.1 { kind = with_lock c.args.locked e.1.kind })) c.set_lock.new.items.items c.args.now c.success.result c.set_lock.ensures c.success.ensures
