use Rattle.std.proofs.Common.{◌++◌, drop}
use Rattle.std.specs.FinMap as map
use Rattle.hfs_model.specs.Volume.{Entry, Items}
use Rattle.hfs_model.specs.Changes.{set_f_info}
use Rattle.hfs_store.proofs.Outcomes.{within, still_entries, changes}
use Rattle.hfs_store.proofs.plain_volume.PlainVolume.set_f_info.Goals as goal

pub set_finder-requires : goal.set_finder-requires
set_finder-requires c = within c.self.inside c.args.self.now c.self.view_is c.self.invariant _ c.in-Ok.at c.in-Ok.ensures

pub invariant_of-self : goal.invariant_of-self
invariant_of-self c =
    still_entries c.self.inside c.args.self.now c.self.view_is c.self.invariant _ c.in-Ok.at c.in-Ok.ensures
    (λ (e : Entry) (m : Items). map.insert m e.0 (record e.1 { finder = c.args.info.now ++ drop 16 e.1.finder })) c.set_finder.new.items.items c.set_finder.ensures

pub returns-in-Ok : goal.returns-in-Ok
unfolding set_f_info
returns-in-Ok c =
    changes c.self.inside c.args.self.now c.self.view_is c.self.invariant _ c.in-Ok.at c.in-Ok.ensures
    (λ (e : Entry) (m : Items). map.insert m e.0 (record e.1 { finder = c.args.info.now ++ drop 16 e.1.finder })) c.set_finder.new.items.items c.args.now c.success.result c.set_finder.ensures c.success.ensures
