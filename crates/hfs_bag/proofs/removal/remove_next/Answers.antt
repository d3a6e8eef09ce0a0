-- What lies at the place is gone, or there is more to do in it.
use Rattle.std.proofs.Common.{◌≡◌, ◌∙◌, sym, subst, List, ℕ}
use Rattle.hfs_bag.specs.Listings.{HasEmptied, HasEmptiedTo}
use Rattle.hfs_bag.specs.Removals.{HasSince, RemovesIn}
use Rattle.hfs_bag.specs.Tries.{HasTried, place_at}
use Rattle.hfs_bag.specs.declared.removal.Tried.{Tried}
use Rattle.hfs_bag.proofs.RemovalLemmas.{around_next, found_next}
use Rattle.hfs_bag.proofs.removal.remove_next.Goals as goal

pub returns-in-Ok-Folder : goal.returns-in-Ok-Folder
returns-in-Ok-Folder g c =
    let place = c.as_str.result.now in
    let old = g.Y.FileSystem.did c.args.system.now in
    let new = g.Y.FileSystem.did c.remove_to_folder.new.system in
    let at : place ≡ place_at c.args.folder.now c.args.inner.now = c.as_str.ensures.value ∙ c.in-Ok.ensures in
    let h = subst (λ (t : Tried). HasTried place (HasEmptied place old new) (λ (name : List ℕ). HasEmptiedTo place name old) new t) c.in-Ok-Folder.field-0-is c.in-Ok-Folder.ensures in
    found_next c.args.folder.now c.args.inner.now place c.in-Ok-Folder.name c.inner_path.result c.some.result old new h.0 at c.some.ensures c.inner_path.ensures h.1 h.2

pub returns-in-Err-remove_to_folder : goal.returns-in-Err-remove_to_folder
returns-in-Err-remove_to_folder g c =
    subst (λ (p : List ℕ). HasSince (RemovesIn p) (g.Y.FileSystem.did c.args.system.now) (g.Y.FileSystem.did c.remove_to_folder.new.system)) (c.as_str.ensures.value ∙ c.in-Ok.ensures)
    c.in-Err-remove_to_folder.ensures

pub returns : goal.returns
returns g c =
    let place = c.as_str-2.result.now in
    let old = g.Y.FileSystem.did c.args.system.now in
    let mid = g.Y.FileSystem.did c.remove_to_folder.new.system in
    let at : place ≡ place_at c.args.folder.now c.args.inner.now = c.as_str-2.ensures.value ∙ c.in-Ok.ensures in
    let first = c.as_str.result.now in
    let h : HasEmptied first old mid =
    subst (λ (t : Tried). HasTried first (HasEmptied first old mid) (λ (name : List ℕ). HasEmptiedTo first name old) mid t) c.in-Ok-Gone.field-0-is c.in-Ok-Gone.ensures in
    let there : HasEmptied place old mid = subst (λ (p : List ℕ). HasEmptied p old mid) (c.as_str.ensures.value ∙ sym c.as_str-2.ensures.value) h in
    around_next c.args.folder.now c.args.inner.now place c.folder_of.result c.some-2.result old (g.Y.FileSystem.did c.remove_folder.new.self) mid at c.some-2.ensures c.folder_of.ensures there c.in-Ok-remove_folder.ensures
