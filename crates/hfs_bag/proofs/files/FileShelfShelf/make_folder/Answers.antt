-- What was made in the folder is one folder more.
use Rattle.std.proofs.Common.{◌≡◌, ◌∙◌, ap, refl, List, ℕ, Global}
use Rattle.std.specs.Prelude.{string_bytes}
use Rattle.hfs_bag.specs.MadeFolders.{given_by}
use Rattle.hfs_bag.specs.ShelfPaths.{path_within}
use Rattle.hfs_bag.proofs.FolderLemmas.{grown_folder}
use Rattle.hfs_bag.proofs.ShelfPlaceLemmas.{place_folder}
use Rattle.hfs_bag.proofs.files.FileShelfShelf.make_folder.Goals as goal

pub returns-in-Ok-make_folder-clause-whole : goal.returns-in-Ok-make_folder-clause-whole
returns-in-Ok-make_folder-clause-whole g c =
    let folder = string_bytes {Z = Global} c.close.new.self.folder in
    let at : c.as_str-2.result.now ≡ path_within folder c.args.path.now =
    c.as_str-2.ensures.value ∙ c.in-Ok.ensures ∙ ap (λ (f : List ℕ). path_within f c.args.path.now) c.as_str.ensures.value in
    grown_folder folder c.args.path.now c.as_str-2.result.now (given_by (string_bytes {Z = Global} c.args.self.now.folder) c.args.self.now.modified (g.Y.FileSystem.did c.args.self.now.system))
    c.close.new.self.modified (g.Y.FileSystem.did c.close.new.self.system) (g.Y.FileSystem.did c.make_folder.new.self) at c.close.ensures.none c.close.ensures.given c.in-Ok-make_folder.ensures

pub returns-in-Ok-make_folder-clause-place : goal.returns-in-Ok-make_folder-clause-place
returns-in-Ok-make_folder-clause-place g c =
    let was = string_bytes {Z = Global} c.args.self.now.folder in
    let folder = string_bytes {Z = Global} c.close.new.self.folder in
    let at : c.as_str-2.result.now ≡ path_within folder c.args.path.now =
    c.as_str-2.ensures.value ∙ c.in-Ok.ensures ∙ ap (λ (f : List ℕ). path_within f c.args.path.now) c.as_str.ensures.value in
    place_folder was folder folder c.args.path.now c.as_str-2.result.now (g.Y.FileSystem.did c.args.self.now.system) (g.Y.FileSystem.did c.close.new.self.system)
    (g.Y.FileSystem.did c.make_folder.new.self) (ap (string_bytes {Z = Global}) c.close.ensures.folder) refl c.close.ensures.others at c.in-Ok-make_folder.ensures
