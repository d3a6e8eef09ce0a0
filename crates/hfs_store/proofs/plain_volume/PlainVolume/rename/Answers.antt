use Rattle.std.proofs.Common.{◌∙◌}
use Rattle.std.specs.FinMap as map
use Rattle.hfs_model.specs.Volume.{Entry, Items}
use Rattle.hfs_model.specs.Choices.{to_rename}
use Rattle.hfs_model.specs.Changes.{rename, change}
use Rattle.hfs_store.proofs.Outcomes.{within, still_entries, changes}
use Rattle.hfs_store.proofs.plain_volume.PlainVolume.rename.Goals as goal

pub rename_item-requires : goal.rename_item-requires
rename_item-requires c = within c.self.inside c.args.self.now c.self.view_is c.self.invariant _ c.in-Ok.at c.in-Ok.ensures.place

pub invariant_of-self : goal.invariant_of-self
invariant_of-self c =
    still_entries c.self.inside c.args.self.now c.self.view_is c.self.invariant _ c.in-Ok.at c.in-Ok.ensures.place
    (λ (e : Entry) (m : Items). map.insert m e.0 (record e.1 { name = c.in-Some.new_name })) c.rename_item.new.items.items c.rename_item.ensures

pub returns-in-Some : goal.returns-in-Some
unfolding rename
returns-in-Some c =
    changes c.self.inside c.args.self.now c.self.view_is c.self.invariant _ c.in-Ok.at c.in-Ok.ensures.place
    (λ (e : Entry) (m : Items). map.insert m e.0 (record e.1 { name = c.in-Some.new_name })) c.rename_item.new.items.items c.args.now c.success.result c.rename_item.ensures c.success.ensures
    ∙ (λ i. change c.args.self.now (to_rename c.args.self.now c.args.dir c.args.name.now c.args.new_name.now) (λ (e : Entry) (m : Items). map.insert m e.0 (record e.1 { name = c.in-Some.ensures.1 i })) c.args.now)
