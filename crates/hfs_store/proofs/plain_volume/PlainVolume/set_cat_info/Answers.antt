use Rattle.std.specs.FinMap as map
use Rattle.hfs_model.specs.Volume.{Entry, Items}
use Rattle.hfs_model.specs.Changes.{set_cat_info}
use Rattle.hfs_store.proofs.Outcomes.{within, still_entries, changes}
use Rattle.hfs_store.proofs.plain_volume.PlainVolume.set_cat_info.Goals as goal

pub set_info-requires : goal.set_info-requires
set_info-requires c = within c.self.inside c.args.self.now c.self.view_is c.self.invariant _ c.in-Ok.at c.in-Ok.ensures

pub invariant_of-self : goal.invariant_of-self
invariant_of-self c =
    still_entries c.self.inside c.args.self.now c.self.view_is c.self.invariant _ c.in-Ok.at c.in-Ok.ensures
    (λ (e : Entry) (m : Items). map.insert m e.0 (record e.1 { created = c.args.created; modified = c.args.modified; backup = c.args.backup; finder = c.args.info })) c.set_info.new.items.items c.set_info.ensures

pub returns-in-Ok : goal.returns-in-Ok
unfolding set_cat_info
returns-in-Ok c =
    changes c.self.inside c.args.self.now c.self.view_is c.self.invariant _ c.in-Ok.at c.in-Ok.ensures
    (λ (e : Entry) (m : Items). map.insert m e.0 (record e.1 { created = c.args.created; modified = c.args.modified; backup = c.args.backup; finder = c.args.info })) c.set_info.new.items.items c.args.now c.success.result c.set_info.ensures c.success.ensures
