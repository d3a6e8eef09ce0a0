-- piece by piece
use Rattle.std.proofs.Common.{◌++◌}
use Rattle.std.specs.Prelude.{codes}
use Rattle.hfs_page.proofs.Joins.{joined, joined-ok}
use Rattle.hfs_remains_page.specs.Rows.{folder_name, folder_told, when_text}
use Rattle.hfs_remains_page.proofs.folder_rows.push_folder.Goals as goal

pub returns : goal.returns
unfolding folder_told
returns c =
    let row = c.args.row.now in
    let name = folder_name row.name.now row.inside in
    let two = name ++ codes "<span>folder</span>" in
    joined-ok c.push_bytes-2.result _ _ _ (two ++ when_text row.date) row.note.now
    (joined _ _ _ two (when_text row.date)
    (joined _ _ _ name (codes "<span>folder</span>") c.in_ok-push_folder_name.ensures c.in_ok-push_bytes.ensures) c.in_ok-push_when.ensures)
    c.push_bytes-2.ensures
