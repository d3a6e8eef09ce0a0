-- The extents lie in the volume, and their blocks came.
use Rattle.std.proofs.Common.{◌≡◌, ◌<◌, ◌∙◌, sym, subst, ℕ, List, arith, rules}
use Rattle.hfs_fields.specs.declared.extent.Extent.{Extent}
use Rattle.hfs_fields.specs.declared.mdb.Mdb.{Mdb}
use Rattle.hfs_fields.proofs.OutcomeLemmas.{on_ok}
use Rattle.hfs_blocks.specs.Blocks.{nodes_in}
use Rattle.hfs_space.specs.Extents.{AreExtentsWithin, fork_extents, fork_byte}
use Rattle.hfs_space.specs.ForkLaws.{block_numbers}
use Rattle.hfs_space.specs.Forks.{HasArea}
use Rattle.hfs_check.specs.Parts.{overflow_in}
use Rattle.hfs_source.specs.Sparse.{sparse}
use Rattle.hfs_image.proofs.ForkBytes.{extents-by}
use Rattle.hfs_copy.specs.Keeping.{GainsExtents, GainsRuns}
use Rattle.hfs_runs.specs.NamedForks.{fork_blocks}
use Rattle.hfs_runs.proofs.forks.push_fork.Goals as goal

pub push_extents-requires-clause-area : goal.push_extents-requires-clause-area
push_extents-requires-clause-area c =
    let few : c.args.working.now.count < 4294967296 = search rules in
    let area : HasArea c.args.working.now.sound.mdb c.args.working.now.count = subst (λ (mdb : Mdb). HasArea mdb c.args.working.now.count) (sym c.requires.directory) c.requires.sound.mdb.area in
    omega (arith, few, area)

pub push_extents-requires-clause-extents : goal.push_extents-requires-clause-extents
push_extents-requires-clause-extents c =
    subst (λ (extents : List Extent). AreExtentsWithin c.args.working.now.sound.mdb.allocation_blocks extents)
    (sym (c.deref-2.ensures.value ∙ c.in_ok-extents.ensures
    ∙ extents-by (sparse c.args.working.now.read) _ ((λ i. nodes_in (sparse (c.volume-blocks.ensures.read i)) (c.deref.ensures.value i)) ∙ c.requires.trees.extents.same)
    c.args.file c.args.kind c.args.fork.now.extents))
    (subst (λ (mdb : Mdb). AreExtentsWithin mdb.allocation_blocks (fork_extents (overflow_in (sparse c.args.working.now.read)) c.args.file (fork_byte c.args.kind) c.args.fork.now.extents))
    (sym c.requires.directory) c.requires.fork.within)

pub returns : goal.returns
returns c =
    let area : HasArea c.args.working.now.sound.mdb c.args.working.now.count = subst (λ (mdb : Mdb). HasArea mdb c.args.working.now.count) (sym c.requires.directory) c.requires.sound.mdb.area in
    let extents : c.deref-2.result.now ≡ fork_extents (overflow_in (sparse c.args.working.now.read)) c.args.file (fork_byte c.args.kind) c.args.fork.now.extents =
    c.deref-2.ensures.value ∙ c.in_ok-extents.ensures
    ∙ extents-by (sparse c.args.working.now.read) _ ((λ i. nodes_in (sparse (c.volume-blocks.ensures.read i)) (c.deref.ensures.value i)) ∙ c.requires.trees.extents.same)
    c.args.file c.args.kind c.args.fork.now.extents in
    let step : (GainsExtents c.args.working.now.sound.mdb c.deref-2.result.now c.args.runs.now.items c.push_extents.new.runs.items
    → GainsRuns (fork_blocks (sparse c.args.working.now.read) c.args.file c.args.kind c.args.fork.now) c.args.working.now.count c.args.runs.now.items c.push_extents.new.runs.items) = λ gained.
    subst (λ (ns : List ℕ). GainsRuns ns c.args.working.now.count c.args.runs.now.items c.push_extents.new.runs.items) (λ i. block_numbers (c.requires.directory i) (extents i))
    (gained c.args.working.now.count area) in
    on_ok c.push_extents.result _ _ step c.push_extents.ensures
