use Rattle.std.proofs.Common.{◌≡◌, List, subst, None}
use Rattle.hfs_model.specs.Volume.{Entry}
use Rattle.hfs_model.specs.Children.{entry_at}
use Rattle.hfs_store.proofs.Kept.{becomes_read_touched, becomes_untouched}
use Rattle.hfs_store.proofs.changes.touch.Goals as goal

pub returns-in-Some : goal.returns-in-Some
returns-in-Some c =
    becomes_read_touched c.args.items.now.items c.deref.result.now c.in-Some.at c.index_mut.result.now c.args.dir c.args.now c.index_mut.ensures.value c.deref.ensures.value c.in-Some.ensures.0 (c.in-Some.ensures.1 c.index_mut.result.now)

pub returns-in_default : goal.returns-in_default
returns-in_default c = becomes_untouched c.args.items.now.items c.args.dir c.args.now (subst (λ (l : List Entry). entry_at l c.args.dir ≡ None) c.deref.ensures.value c.in_default.ensures)
