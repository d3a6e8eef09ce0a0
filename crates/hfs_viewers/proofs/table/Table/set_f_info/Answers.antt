use Rattle.std.proofs.Common.{◌++◌, drop, refl}
use Rattle.hfs_model.specs.declared.item.Item.{Item}
use Rattle.hfs_model.specs.Changes.{set_f_info}
use Rattle.hfs_viewers.specs.RowEdits.{with_finder}
use Rattle.hfs_viewers.proofs.Left.{refused, written}
use Rattle.hfs_viewers.proofs.table.Table.set_f_info.Goals as goal

pub returns-in-Err : goal.returns-in-Err
unfolding set_f_info
returns-in-Err c = refused c.args.self.now _ c.to_set_f_info.result c.in-Err.field-0 _ c.args.now c.requires c.to_set_f_info.ensures.choice c.in-Err.is

pub returns : goal.returns
unfolding set_f_info
returns c =
    let info = c.args.info.now in
    written c.args.self.now c.requires c.set_finder.new.rows (with_finder info) (λ (i : Item). record i { finder = info ++ drop 16 i.finder }) _ c.to_set_f_info.result c.in-Ok.found c.args.now
    c.to_set_f_info.ensures.choice c.in-Ok.is c.in-Ok.ensures.found c.set_finder.ensures (λ x. refl) (λ i. refl) (λ i. refl) (λ items q x h. h)
