-- What was asked of one name only removes in the folder, and where it is gone, that is its removal.
use Rattle.std.proofs.Common.{◌≡◌, ◌∙◌, ◌∷◌, sym, ap, List, ℕ}
use Rattle.std.specs.Prelude.{string_bytes}
use Rattle.hfs_bag.specs.FileRemovals.{removal_of}
use Rattle.hfs_bag.specs.ShelfPaths.{path_within}
use Rattle.hfs_bag.specs.SystemSteps.{done, failed, found_folder, removed_file}
use Rattle.hfs_bag.specs.declared.system.Removal.{Removal}
use Rattle.hfs_bag.proofs.RemovalLemmas.{entry_removed, folder_found, found_since, removed_to}
use Rattle.hfs_bag.proofs.removal.remove_name.Goals as goal

pub returns-in-Ok-Gone : goal.returns-in-Ok-Gone
returns-in-Ok-Gone g c =
    entry_removed c.args.folder.now c.args.name.now c.as_str.result.now (g.Y.FileSystem.did c.args.system.now) (g.Y.FileSystem.did c.remove_file.new.self)
    (sym c.is_entry.ensures ∙ c.if-not-is_entry.false) (c.as_str.ensures.value ∙ c.in-Ok.ensures)
    (c.in-Ok-Gone.ensures ∙ ap (λ (kind : Removal). done (removal_of kind c.as_str.result.now) ∷ g.Y.FileSystem.did c.args.system.now) c.in-Ok-Gone.field-0-is)

pub returns-in-Ok-from_str : goal.returns-in-Ok-from_str
returns-in-Ok-from_str g c =
    let old = g.Y.FileSystem.did c.args.system.now in
    let at : c.as_str.result.now ≡ path_within c.args.folder.now c.args.name.now = c.as_str.ensures.value ∙ c.in-Ok.ensures in
    let came : g.Y.FileSystem.did c.remove_file.new.self ≡ done (found_folder c.as_str.result.now) ∷ old =
    c.in-Ok-Folder.ensures ∙ ap (λ (kind : Removal). done (removal_of kind c.as_str.result.now) ∷ old) c.in-Ok-Folder.field-0-is in
    folder_found c.args.folder.now c.args.name.now (string_bytes c.in-Ok-from_str.name) c.as_str.result.now old (g.Y.FileSystem.did c.remove_file.new.self)
    (sym c.is_entry.ensures ∙ c.if-not-is_entry.false) (c.in-Ok-from_str.ensures.ok) at came

pub returns-in-Ok-Folder : goal.returns-in-Ok-Folder
returns-in-Ok-Folder g c =
    found_since c.args.folder.now c.as_str.result.now c.in-Ok-Folder.field-0 (g.Y.FileSystem.did c.args.system.now) (g.Y.FileSystem.did c.remove_file.new.self) c.in-Ok-Folder.ensures c.in-Ok-Folder.field-0-is

pub returns : goal.returns
returns g c =
    let old = g.Y.FileSystem.did c.args.system.now in
    let at : c.as_str.result.now ≡ path_within c.args.folder.now c.args.name.now = c.as_str.ensures.value ∙ c.in-Ok.ensures in (
      c.args.name.now,
      old,
      removed_to c.args.folder.now c.args.name.now old (sym c.is_entry.ensures ∙ c.if-not-is_entry.false),
      c.in-Err-remove_file.ensures ∙ ap (λ (p : List ℕ). failed (removed_file p) ∷ old) at,
    )
