-- The folder that was made is empty, or it is taken away.
use Rattle.std.proofs.Common.{refl, Global}
use Rattle.std.specs.Prelude.{string_bytes}
use Rattle.hfs_bag.proofs.PlacingLemmas.{opened_empty, opened_now, unopened}
use Rattle.hfs_bag.proofs.files.FileShelf.create.Goals as goal

pub returns-in-Ok-open_folder-clause-empty : goal.returns-in-Ok-open_folder-clause-empty
returns-in-Ok-open_folder-clause-empty g c =
    let folder = string_bytes {Z = Global} c.in-Ok.folder in
    let old = g.Y.FileSystem.did c.args.system in
    let made = g.Y.FileSystem.did c.new_folder.new.system in
    let new = g.Y.FileSystem.did c.open_folder.new.self in
    opened_empty c.args.path.now folder old new (opened_now c.args.path.now folder c.as_str.result.now old made new c.in-Ok.ensures.made c.as_str.ensures.value c.in-Ok-open_folder.ensures)

pub returns-in-Err-open_folder-clause-none : goal.returns-in-Err-open_folder-clause-none
returns-in-Err-open_folder-clause-none g c =
    unopened c.args.path.now (string_bytes {Z = Global} c.in-Ok.folder) c.as_str.result.now c.as_str-in-Err-open_folder.result.now _ c.remove_folder-removed.result (g.Y.FileSystem.did c.args.system)
    (g.Y.FileSystem.did c.new_folder.new.system) (g.Y.FileSystem.did c.open_folder.new.self) (g.Y.FileSystem.did c.remove_folder-removed.new.self) c.in-Ok.ensures.made c.as_str.ensures.value
    c.in-Err-open_folder.ensures c.as_str-in-Err-open_folder.ensures.value c.remove_folder-removed.ensures refl
