use Rattle.std.proofs.Common.{◌++◌, ap, ◌∙◌}
use Rattle.std.specs.List.{flat_map}
use Rattle.hfs_space.specs.Extents.{Overflow, fork_extents}
use Rattle.hfs_space.specs.Owners.{extents_in}
use Rattle.hfs_space.specs.Runs.{forks_in}
use Rattle.hfs_space.specs.TreeKeys.{overflow_of}
use Rattle.hfs_space.proofs.OwnedAll.{owned-all}
use Rattle.hfs_space.proofs.owned.owned_extents.Goals as goal

pub returns : goal.returns
returns g c =
    λ catalog are.
    let own = c.in_ok-push_fork.ensures ∙ (λ i. c.new-owned.ensures.items i ++ fork_extents ((c.deref.ensures.value ∙ c.in_ok-overflow.ensures) i) 4 0 c.args.mdb.now.catalog_file) in
    let forks = c.in_ok-push_files.ensures ∙ ap (λ (xs : Overflow). c.push_fork.new.extents.items ++ flat_map (extents_in xs) (forks_in c.args.files.now)) (c.deref-2.ensures.value ∙ c.in_ok-overflow.ensures) in
    owned-all c.args.mdb.now (overflow_of (g.N.Nodes.nodes c.args.tree.now)) c.deref-3.result.now c.args.files.now catalog c.push_fork.new.extents.items c.push_files.new.owned.items
    c.extend_from_slice.new.self.items c.push_bad.new.owned.items are own forks c.in_ok-extend_from_slice.ensures.items
    c.in_ok-push_bad.ensures (c.deref-3.ensures.value ∙ c.in_ok-overflow.ensures)
