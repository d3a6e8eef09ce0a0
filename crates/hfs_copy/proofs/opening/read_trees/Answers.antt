-- One tree, and then the other.
use Rattle.std.proofs.Common.{List, sym, subst}
use Rattle.std.specs.List.{flat_map}
use Rattle.hfs_blocks.specs.declared.run.Run.{Run}
use Rattle.hfs_blocks.specs.Blocks.{run_of, AreRunsWithin}
use Rattle.hfs_source.specs.Sparse.{HasEach}
use Rattle.hfs_source.proofs.Fetched.{stays-later}
use Rattle.hfs_source.proofs.SparseLemmas.{each-grown}
use Rattle.hfs_copy.proofs.opening.read_trees.Goals as goal

pub returns-in_err-fetch_runs-clause-within : goal.returns-in_err-fetch_runs-clause-within
returns-in_err-fetch_runs-clause-within g c = λ total lie.
    c.in_err-fetch_runs.ensures.within total (subst (λ (rs : List Run). AreRunsWithin rs total) (sym c.deref.ensures.value) lie.extents)

pub returns-in_err-fetch_runs-2-clause-stays : goal.returns-in_err-fetch_runs-2-clause-stays
returns-in_err-fetch_runs-2-clause-stays g c =
    stays-later (g.S.BlockSource.image c.args.source.now) (g.S.BlockSource.image c.fetch_runs.new.source) c.args.read.now c.fetch_runs.new.read
    c.fetch_runs-2.new.read c.in_ok-fetch_runs.ensures.image c.in_ok-fetch_runs.ensures.stays c.in_err-fetch_runs-2.ensures.stays

pub returns-in_err-fetch_runs-2-clause-within : goal.returns-in_err-fetch_runs-2-clause-within
returns-in_err-fetch_runs-2-clause-within g c = λ total lie within.
    c.in_err-fetch_runs-2.ensures.within total (subst (λ (rs : List Run). AreRunsWithin rs total) (sym c.deref-2.ensures.value) lie.catalog)
    (c.in_ok-fetch_runs.ensures.within total (subst (λ (rs : List Run). AreRunsWithin rs total) (sym c.deref.ensures.value) lie.extents) within)

pub returns-clause-extents : goal.returns-clause-extents
returns-clause-extents g c =
    subst (λ (rs : List Run). HasEach c.fetch_runs-2.new.read (flat_map run_of rs)) c.deref.ensures.value
    (each-grown c.fetch_runs.new.read c.fetch_runs-2.new.read c.in_ok-fetch_runs-2.ensures.grown (flat_map run_of c.deref.result.now)
    c.in_ok-fetch_runs.ensures.has)

pub returns-clause-stays : goal.returns-clause-stays
returns-clause-stays g c =
    stays-later (g.S.BlockSource.image c.args.source.now) (g.S.BlockSource.image c.fetch_runs.new.source) c.args.read.now c.fetch_runs.new.read
    c.fetch_runs-2.new.read c.in_ok-fetch_runs.ensures.image c.in_ok-fetch_runs.ensures.stays c.in_ok-fetch_runs-2.ensures.stays

pub returns-clause-within : goal.returns-clause-within
returns-clause-within g c = λ total lie within.
    c.in_ok-fetch_runs-2.ensures.within total (subst (λ (rs : List Run). AreRunsWithin rs total) (sym c.deref-2.ensures.value) lie.catalog)
    (c.in_ok-fetch_runs.ensures.within total (subst (λ (rs : List Run). AreRunsWithin rs total) (sym c.deref.ensures.value) lie.extents) within)
