use Rattle.std.proofs.Common.{◌<◌, ℕ, List, sym, ap, subst}
use Rattle.hfs_model.specs.Volume.{Entry}
use Rattle.hfs_model.specs.Children.{valence}
use Rattle.hfs_store.proofs.Outcomes.{entries_are}
use Rattle.hfs_store.proofs.plain_volume.PlainVolume.add.Goals as goal

pub add_item-requires : goal.add_item-requires
add_item-requires c =
    subst (λ (p : ℕ). valence c.self.inside.items.items p < 65535) (sym (ap (λ x. x.parent) c.new_item.ensures))
    (subst (λ (l : List Entry). valence l c.args.dir < 65535) (entries_are c.self.inside c.args.self.now c.self.view_is c.self.invariant) c.in-Ok.ensures.room)
