use Rattle.std.proofs.Common.{subst}
use Rattle.std.specs.Prelude.{OnOk}
use Rattle.hfs_model.specs.declared.item.Kind.{Kind}
use Rattle.hfs_model.specs.Changes.{create}
use Rattle.hfs_viewers.specs.Tables.{volume_of}
use Rattle.hfs_viewers.specs.RowEdits.{Leaves}
use Rattle.hfs_viewers.proofs.table.Table.create.Goals as goal

pub returns-clause-ok : goal.returns-clause-ok
returns-clause-ok c =
    let t = c.args.self.now in
    subst (λ (k : Kind). OnOk c.add.result (Leaves c.add.new.self (create k (volume_of t) c.args.dir c.args.name.now c.args.now).0)) (c.new_file-kind.ensures.shown t.base t.mdb) c.add.ensures.ok
