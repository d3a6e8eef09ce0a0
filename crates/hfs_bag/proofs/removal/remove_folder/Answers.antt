-- Each place on the way was found, so what is removed there is removed in the folder.
use Rattle.std.proofs.Common.{sym, subst, List, ℕ, Global}
use Rattle.hfs_bag.specs.Tries.{HasNextPlace}
use Rattle.hfs_bag.proofs.Reached.{IsReached, reached_end, reached_first, reached_next, reached_refused}
use Rattle.hfs_bag.proofs.removal.remove_folder.Goals as goal

pub loop-init : goal.loop-init
loop-init g c =
    subst (λ (inner : List ℕ). IsReached c.args.folder.now inner (g.Y.FileSystem.did c.args.system.now) (g.Y.FileSystem.did c.args.system.now)) (sym c.new-inner.ensures.bytes)
    (reached_first c.args.folder.now (g.Y.FileSystem.did c.args.system.now))

pub returns-in-Ok-None : goal.returns-in-Ok-None
returns-in-Ok-None g c =
    let folder = c.args.folder.now in
    let inner = c.as_str.result.now in
    let old = g.Y.FileSystem.did c.args.system.now in
    let mid = g.Y.FileSystem.did c.loop.system in
    let new = g.Y.FileSystem.did c.remove_next.new.system in
    let way : IsReached folder inner old mid = subst (λ (p : List ℕ). IsReached folder p old mid) (sym c.as_str.ensures.value) c.loop.invariant in
    reached_end folder inner old mid way new (subst (HasNextPlace {Z = Global} folder inner mid new) c.in-Ok-None.field-0-is c.in-Ok-None.ensures)

pub returns-in-Err : goal.returns-in-Err
returns-in-Err g c =
    let folder = c.args.folder.now in
    let inner = c.as_str.result.now in
    let old = g.Y.FileSystem.did c.args.system.now in
    let mid = g.Y.FileSystem.did c.loop.system in
    let way : IsReached folder inner old mid = subst (λ (p : List ℕ). IsReached folder p old mid) (sym c.as_str.ensures.value) c.loop.invariant in
    reached_refused folder inner old mid way (g.Y.FileSystem.did c.remove_next.new.system) c.in-Err.ensures

pub loop-preserved : goal.loop-preserved
loop-preserved g c =
    let folder = c.args.folder.now in
    let inner = c.as_str.result.now in
    let old = g.Y.FileSystem.did c.args.system.now in
    let mid = g.Y.FileSystem.did c.loop.system in
    let new = g.Y.FileSystem.did c.remove_next.new.system in
    let way : IsReached folder inner old mid = subst (λ (p : List ℕ). IsReached folder p old mid) (sym c.as_str.ensures.value) c.loop.invariant in
    reached_next folder inner old mid way new c.in-Ok-Some.next (subst (HasNextPlace {Z = Global} folder inner mid new) c.in-Ok-Some.field-0-is c.in-Ok-Some.ensures)
