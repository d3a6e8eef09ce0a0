use Rattle.std.proofs.Common.{◌<◌, List, subst}
use Rattle.hfs_model.specs.Volume.{Entry, Items}
use Rattle.hfs_model.specs.Children.{valence}
use Rattle.hfs_model.specs.Changes.{cat_move, moved}
use Rattle.hfs_store.proofs.Outcomes.{entries_are, within, still_entries, changes}
use Rattle.hfs_store.proofs.plain_volume.PlainVolume.cat_move.Goals as goal

pub move_item-requires-clause-within : goal.move_item-requires-clause-within
move_item-requires-clause-within c = within c.self.inside c.args.self.now c.self.view_is c.self.invariant _ c.in-Ok.at c.in-Ok.ensures.place

pub invariant_of-self : goal.invariant_of-self
invariant_of-self c =
    still_entries c.self.inside c.args.self.now c.self.view_is c.self.invariant _ c.in-Ok.at c.in-Ok.ensures.place
    (λ (e : Entry) (m : Items). moved m e c.args.dir c.args.new_dir c.args.now) c.move_item.new.items.items c.move_item.ensures

pub returns-in-Ok : goal.returns-in-Ok
unfolding cat_move
returns-in-Ok c =
    changes c.self.inside c.args.self.now c.self.view_is c.self.invariant _ c.in-Ok.at c.in-Ok.ensures.place
    (λ (e : Entry) (m : Items). moved m e c.args.dir c.args.new_dir c.args.now) c.move_item.new.items.items c.args.now c.success.result c.move_item.ensures c.success.ensures

pub move_item-requires-clause-room : goal.move_item-requires-clause-room
move_item-requires-clause-room c = subst (λ (l : List Entry). valence l c.args.new_dir < 65535) (entries_are c.self.inside c.args.self.now c.self.view_is c.self.invariant) c.in-Ok.ensures.room
