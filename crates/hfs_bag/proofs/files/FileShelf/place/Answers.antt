-- What was let go of before, and the move that failed, change nothing.
use Rattle.std.proofs.Common.{◌≡◌, subst, List, ℕ, Global, rules}
use Rattle.std.specs.Prelude.{string_bytes}
use Rattle.hfs_bag.specs.Left.{IsLeft}
use Rattle.hfs_bag.specs.SystemSteps.{moved}
use Rattle.hfs_bag.proofs.PlacingLemmas.{failed_in, left_behind, since_closed}
use Rattle.hfs_bag.proofs.files.FileShelf.place.Goals as goal

pub returns-clause-away : goal.returns-clause-away
returns-clause-away g c =
    let folder = string_bytes {Z = Global} c.args.self.folder in
    let old = g.Y.FileSystem.did c.args.self.system in
    let closed = g.Y.FileSystem.did c.close.new.self.system in
    let mid = g.Y.FileSystem.did c.rename.new.self in
    let path : c.as_str-in-Err.result.now ≡ folder = search rules in
    left_behind folder old mid (g.Y.FileSystem.did c.removed.result.system) c.removed.result.fault
    (failed_in folder old closed mid (moved c.as_str.result.now c.args.path.now) (since_closed folder c.args.self.modified old closed c.close.ensures.closed) c.in-Err.ensures)
    (subst (λ (f : List ℕ). IsLeft c.removed.result.fault f mid (g.Y.FileSystem.did c.removed.result.system)) path c.removed.ensures.left)
