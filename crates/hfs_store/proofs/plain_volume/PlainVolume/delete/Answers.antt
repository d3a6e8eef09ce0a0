use Rattle.std.specs.FinMap as map
use Rattle.hfs_model.specs.Volume.{Entry, Items}
use Rattle.hfs_model.specs.Changes.{delete, touched}
use Rattle.hfs_store.proofs.Outcomes.{within, still_entries, changes}
use Rattle.hfs_store.proofs.plain_volume.PlainVolume.delete.Goals as goal

pub remove_item-requires : goal.remove_item-requires
remove_item-requires c = within c.self.inside c.args.self.now c.self.view_is c.self.invariant _ c.in-Ok.at c.in-Ok.ensures

pub invariant_of-self : goal.invariant_of-self
invariant_of-self c =
    still_entries c.self.inside c.args.self.now c.self.view_is c.self.invariant _ c.in-Ok.at c.in-Ok.ensures
    (λ (e : Entry) (m : Items). touched (map.remove m e.0) c.args.dir c.args.now) c.remove_item.new.items.items c.remove_item.ensures

pub returns-in-Ok : goal.returns-in-Ok
unfolding delete
returns-in-Ok c =
    changes c.self.inside c.args.self.now c.self.view_is c.self.invariant _ c.in-Ok.at c.in-Ok.ensures
    (λ (e : Entry) (m : Items). touched (map.remove m e.0) c.args.dir c.args.now) c.remove_item.new.items.items c.args.now c.success.result c.remove_item.ensures c.success.ensures
