use Rattle.std.proofs.Common.{refl}
use Rattle.hfs_model.specs.declared.item.Item.{Item}
use Rattle.hfs_model.specs.Changes as model
use Rattle.hfs_model.specs.Changes.{set_lock}
use Rattle.hfs_viewers.specs.RowEdits.{with_lock}
use Rattle.hfs_viewers.proofs.Left.{refused, written, lock_shown, lock_shape}
use Rattle.hfs_viewers.proofs.table.Table.set_lock.Goals as goal

pub returns-in-Err : goal.returns-in-Err
unfolding set_lock
returns-in-Err c = refused c.args.self.now _ c.file_to_change.result c.in-Err.field-0 _ c.args.now c.requires c.file_to_change.ensures.choice c.in-Err.is

pub returns : goal.returns
unfolding set_lock
returns c =
    let t = c.args.self.now in
    written t c.requires c.set_lock.new.rows (with_lock c.args.locked) (λ (i : Item). record i { kind = model.with_lock c.args.locked i.kind }) _ c.file_to_change.result c.in-Ok.found c.args.now
    c.file_to_change.ensures.choice c.in-Ok.is c.in-Ok.ensures.found c.set_lock.ensures (lock_shown t.base t.mdb c.args.locked) (λ i. refl) (λ i. refl) (lock_shape t.mdb c.args.locked)
