-- What was made in the folder is one file more.
use Rattle.std.proofs.Common.{◌≡◌, ◌∙◌, ap, refl, List, ℕ, Global}
use Rattle.std.specs.Prelude.{string_bytes}
use Rattle.hfs_bag.specs.MadeFolders.{given_by}
use Rattle.hfs_bag.specs.ShelfPaths.{path_within}
use Rattle.hfs_bag.specs.SystemSteps.{makes_file}
use Rattle.hfs_bag.proofs.FolderLemmas.{grown_file}
use Rattle.hfs_bag.proofs.ShelfPlaceLemmas.{place_file}
use Rattle.hfs_bag.proofs.files.FileShelfShelf.make_file.Goals as goal

pub returns-in-Ok-open_file-clause-whole : goal.returns-in-Ok-open_file-clause-whole
returns-in-Ok-open_file-clause-whole g c =
    let folder = string_bytes {Z = Global} c.close.new.self.folder in
    let at : c.as_str-2.result.now ≡ path_within folder c.args.path.now =
    c.as_str-2.ensures.value ∙ c.in-Ok.ensures ∙ ap (λ (f : List ℕ). path_within f c.args.path.now) c.as_str.ensures.value in
    grown_file folder c.args.path.now c.as_str-2.result.now (given_by (string_bytes {Z = Global} c.args.self.now.folder) c.args.self.now.modified (g.Y.FileSystem.did c.args.self.now.system)) (makes_file c.new_file.result)
    c.close.new.self.modified c.args.modified (g.Y.FileSystem.did c.close.new.self.system) (g.Y.FileSystem.did c.open_file.new.self) c.new_file.ensures at c.close.ensures.none c.close.ensures.given
    c.in-Ok-open_file.ensures

pub returns-in-Ok-open_file-clause-place : goal.returns-in-Ok-open_file-clause-place
returns-in-Ok-open_file-clause-place g c =
    let was = string_bytes {Z = Global} c.args.self.now.folder in
    let folder = string_bytes {Z = Global} c.close.new.self.folder in
    let at : c.as_str-2.result.now ≡ path_within folder c.args.path.now =
    c.as_str-2.ensures.value ∙ c.in-Ok.ensures ∙ ap (λ (f : List ℕ). path_within f c.args.path.now) c.as_str.ensures.value in
    place_file was folder folder c.args.path.now c.as_str-2.result.now (makes_file c.new_file.result) (g.Y.FileSystem.did c.args.self.now.system) (g.Y.FileSystem.did c.close.new.self.system)
    (g.Y.FileSystem.did c.open_file.new.self) (ap (string_bytes {Z = Global}) c.close.ensures.folder) refl c.close.ensures.others at c.new_file.ensures c.in-Ok-open_file.ensures
