use Rattle.std.proofs.Common.{refl}
use Rattle.hfs_viewers.proofs.Copied.{same_entries, is_table, same_volume}
use Rattle.hfs_viewers.proofs.table.Table.copied.Goals as goal

pub returns-clause-table : goal.returns-clause-table
returns-clause-table c =
    is_table c.args.self.now _ c.in_ok-base.ensures refl (same_entries _ _ c.in_ok-by_id.ensures.cases) (same_entries _ _ c.in_ok-by_name.ensures.cases) c.requires

pub returns-clause-volume : goal.returns-clause-volume
returns-clause-volume c =
    same_volume c.args.self.now _ c.in_ok-base.ensures refl (same_entries _ _ c.in_ok-by_id.ensures.cases) (same_entries _ _ c.in_ok-by_name.ensures.cases) refl refl refl refl
