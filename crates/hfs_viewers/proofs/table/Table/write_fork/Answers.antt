-- The row of the chosen file shows the bytes in their place.
use Rattle.std.proofs.Common.{◌≡◌, ℕ, List, sym, subst, ap, ◌∙◌, Result, ℤ}
use Rattle.hfs_fields.proofs.OutcomeLemmas.{on_err}
use Rattle.hfs_model.specs.Volume.{Entry}
use Rattle.hfs_model.specs.Forks.{written}
use Rattle.hfs_model.specs.ForkCalls.{write_fork, to_write_fork}
use Rattle.hfs_viewers.specs.RowEdits.{chosen_of}
use Rattle.hfs_viewers.specs.ForkParts.{MayWrite}
use Rattle.hfs_viewers.specs.Tables.{item_of, volume_of}
use Rattle.hfs_viewers.proofs.Left.{refused}
use Rattle.hfs_viewers.proofs.ForkLemmas.{edited, kept, may_write}
use Rattle.hfs_viewers.proofs.table.Table.write_fork.Goals as goal

pub returns-in-Err-clause-ok : goal.returns-in-Err-clause-ok
unfolding write_fork
returns-in-Err-clause-ok c =
    let t = c.args.self.now in
    let choice : to_write_fork (volume_of t) c.args.dir c.args.name.now c.args.fork c.args.offset c.args.bytes.now ≡ chosen_of t c.to_write_fork.result =
    ap (λ (b : List ℕ). to_write_fork (volume_of t) c.args.dir c.args.name.now c.args.fork c.args.offset b) (sym c.as_slice.ensures) ∙ c.to_write_fork.ensures.choice in
    refused t _ c.to_write_fork.result c.in-Err.field-0 _ c.args.now c.requires choice c.in-Err.is

pub edit_fork-requires : goal.edit_fork-requires
edit_fork-requires c r at =
    may_write c.args.self.now c.requires c.args.fork c.args.offset c.args.bytes c.in-Ok.found c.in-Ok.ensures.found
    (subst (λ (b : List ℕ). MayWrite c.args.self.now c.args.fork c.args.offset b c.in-Ok.found) c.as_slice.ensures c.in-Ok.ensures.within) r at

pub returns-in_err-edit_fork-clause-err : goal.returns-in_err-edit_fork-clause-err
returns-in_err-edit_fork-clause-err c =
    let t = c.args.self.now in
    on_err _ _ (kept t c.requires c.edit_fork.new.rows c.args.fork c.in-Ok.found.id (item_of t.base t.mdb c.in-Ok.found.row.now) c.in-Ok.ensures.found c.in_err-edit_fork.ensures.err)

pub returns-clause-ok : goal.returns-clause-ok
unfolding write_fork
returns-clause-ok c =
    let t = c.args.self.now in
    let choice : to_write_fork (volume_of t) c.args.dir c.args.name.now c.args.fork c.args.offset c.args.bytes.now ≡ chosen_of t c.to_write_fork.result =
    ap (λ (b : List ℕ). to_write_fork (volume_of t) c.args.dir c.args.name.now c.args.fork c.args.offset b) (sym c.as_slice.ensures) ∙ c.to_write_fork.ensures.choice in
    edited t c.requires c.edit_fork.new.rows t.mdb.allocation_block_size c.args.fork (written c.args.offset c.args.bytes.now) _ c.to_write_fork.result c.in-Ok.found c.args.now
    choice c.in-Ok.is c.in-Ok.ensures.found c.in_ok-edit_fork.ensures.ok
