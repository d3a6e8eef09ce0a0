use Rattle.std.proofs.Common.{refl}
use Rattle.hfs_model.specs.declared.item.Item.{Item}
use Rattle.hfs_model.specs.Changes.{set_cat_info}
use Rattle.hfs_viewers.specs.RowEdits.{with_info}
use Rattle.hfs_viewers.proofs.Left.{refused, written}
use Rattle.hfs_viewers.proofs.table.Table.set_cat_info.Goals as goal

pub returns-in-Err : goal.returns-in-Err
unfolding set_cat_info
returns-in-Err c = refused c.args.self.now _ c.to_set_cat_info.result c.in-Err.field-0 _ c.args.now c.requires c.to_set_cat_info.ensures.choice c.in-Err.is

pub returns : goal.returns
unfolding set_cat_info
returns c =
    written c.args.self.now c.requires c.set_info.new.rows (with_info c.args.settings.now)
    (λ (i : Item). record i { created = c.args.settings.now.created; modified = c.args.settings.now.modified; backup = c.args.settings.now.backup; finder = c.args.settings.now.info }) _ c.to_set_cat_info.result c.in-Ok.found c.args.now
    c.to_set_cat_info.ensures.choice c.in-Ok.is c.in-Ok.ensures.found c.set_info.ensures (λ x. refl) (λ i. refl) (λ i. refl) (λ items q x h. h)
