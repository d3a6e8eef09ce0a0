use Rattle.std.proofs.Common.{◌-◌, ap, ◌∙◌, ℕ}
use Rattle.hfs_fields.proofs.OutcomeLemmas.{on_ok}
use Rattle.hfs_repair.proofs.Pushed.{mdb-pushed}
use Rattle.hfs_repair.proofs.mdb_numbers.push_mdb_numbers.Goals as goal

pub returns : goal.returns
returns g c =
    on_ok c.push_long-2.result _ _
    (λ last. mdb-pushed (g.B.Blocks.blocks c.args.blocks.now) c.args.mdb.now c.args.records.now _ _ _ _ _ _ _ _ _ _ _
    c.count_files_in-root_files.ensures c.free_count-free.ensures c.count_folders_in-root_folders.ensures c.count_files-files.ensures
    (c.saturating_sub-folders.ensures ∙ ap (λ (n : ℕ). n - 1) c.count_folders.ensures)
    c.in_ok-push_short.ensures c.in_ok-push_short-2.ensures c.in_ok-push_short-3.ensures c.in_ok-push_long.ensures last)
    c.push_long-2.ensures
