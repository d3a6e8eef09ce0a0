-- The extents tree, and the catalog behind it.
use Rattle.std.proofs.Common.{◌≡◌, true, false, ap, ◌∙◌, rules}
use Rattle.std.specs.List.{flat_map}
use Rattle.hfs_blocks.specs.Blocks.{run_of}
use Rattle.hfs_source.specs.declared.volume.SparseVolume.{SparseVolume}
use Rattle.hfs_source.proofs.SparseLemmas.{each-grown}
use Rattle.hfs_space.specs.Faults.{is_tree_file}
use Rattle.hfs_space.specs.TreeFiles.{tree_blocks}
use Rattle.hfs_check.specs.Agree.{bitmap_blocks}
use Rattle.hfs_image.specs.Gathered.{LieAt}
use Rattle.hfs_image.proofs.Gathered.{reads-on}
use Rattle.hfs_copy.proofs.ReadParts.{decides-no-extents, reads-runs, is-later, extents-read}
use Rattle.hfs_copy.proofs.gathering.gather_trees.Goals as goal

pub returns-in_default-found-clause-decides : goal.returns-in_default-found-clause-decides
returns-in_default-found-clause-decides g c =
    let none : is_tree_file c.args.mdb.now c.args.mdb.now.extents_file c.args.mdb.now.extents_file_size ≡ false = search rules in
    decides-no-extents c.args.count c.args.patch.now c.args.read.now c.args.mdb.now c.requires.has_mdb
    c.requires.sound c.requires.is none

pub returns-in_err-fetch_runs-clause-reads : goal.returns-in_err-fetch_runs-clause-reads
returns-in_err-fetch_runs-clause-reads g c =
    let found : (is_tree_file c.args.mdb.now c.args.mdb.now.extents_file c.args.mdb.now.extents_file_size ≡ true)
    × LieAt c.over.result.below.now.count (tree_blocks c.args.mdb.now c.args.mdb.now.extents_file c.args.mdb.now.extents_file_size) c.in-Some.runs.items = search rules in
    reads-runs (g.S.BlockSource.image c.args.source.now) c.args.count c.over.result.below.now.count c.args.read.now c.fetch_runs.new.read c.in-Some.runs.items
    c.deref.result.now found.1.within (ap (λ (v : SparseVolume). v.count) c.over.ensures.below ∙ c.volume-volume.ensures.count) c.deref.ensures.value
    c.in_err-fetch_runs.ensures.grown c.in_err-fetch_runs.ensures.stays c.in_err-fetch_runs.ensures.within

pub gather_catalog-requires-clause-is : goal.gather_catalog-requires-clause-is
gather_catalog-requires-clause-is g c =
    is-later c.args.patch.now c.args.read.now c.fetch_runs.new.read c.in_ok-fetch_runs.ensures.grown c.args.mdb.now c.requires.has_mdb c.requires.is

pub gather_catalog-requires-clause-has_bitmap : goal.gather_catalog-requires-clause-has_bitmap
gather_catalog-requires-clause-has_bitmap g c =
    each-grown c.args.read.now c.fetch_runs.new.read c.in_ok-fetch_runs.ensures.grown (bitmap_blocks c.args.mdb.now) c.requires.has_bitmap

pub gather_catalog-requires-clause-has_extents : goal.gather_catalog-requires-clause-has_extents
gather_catalog-requires-clause-has_extents g c =
    let found : (is_tree_file c.args.mdb.now c.args.mdb.now.extents_file c.args.mdb.now.extents_file_size ≡ true)
    × LieAt c.over.result.below.now.count (tree_blocks c.args.mdb.now c.args.mdb.now.extents_file c.args.mdb.now.extents_file_size) c.in-Some.runs.items = search rules in
    extents-read c.args.patch.now c.args.read.now c.fetch_runs.new.read c.in_ok-fetch_runs.ensures.grown c.args.mdb.now c.deref.result.now c.requires.has_mdb
    c.requires.is (ap (flat_map run_of) c.deref.ensures.value ∙ found.1.numbers) c.in_ok-fetch_runs.ensures.has

pub returns-in_err-gather_catalog-clause-reads : goal.returns-in_err-gather_catalog-clause-reads
returns-in_err-gather_catalog-clause-reads g c =
    let found : (is_tree_file c.args.mdb.now c.args.mdb.now.extents_file c.args.mdb.now.extents_file_size ≡ true)
    × LieAt c.over.result.below.now.count (tree_blocks c.args.mdb.now c.args.mdb.now.extents_file c.args.mdb.now.extents_file_size) c.in-Some.runs.items = search rules in
    reads-on (g.S.BlockSource.image c.args.source.now) (g.S.BlockSource.image c.fetch_runs.new.source) c.args.count c.args.read.now c.fetch_runs.new.read
    c.gather_catalog.new.read c.in_ok-fetch_runs.ensures.image
    (reads-runs (g.S.BlockSource.image c.args.source.now) c.args.count c.over.result.below.now.count c.args.read.now c.fetch_runs.new.read c.in-Some.runs.items
    c.deref.result.now found.1.within (ap (λ (v : SparseVolume). v.count) c.over.ensures.below ∙ c.volume-volume.ensures.count) c.deref.ensures.value
    c.in_ok-fetch_runs.ensures.grown c.in_ok-fetch_runs.ensures.stays c.in_ok-fetch_runs.ensures.within)
    c.in_err-gather_catalog.ensures.reads

pub returns-clause-reads : goal.returns-clause-reads
returns-clause-reads g c =
    let found : (is_tree_file c.args.mdb.now c.args.mdb.now.extents_file c.args.mdb.now.extents_file_size ≡ true)
    × LieAt c.over.result.below.now.count (tree_blocks c.args.mdb.now c.args.mdb.now.extents_file c.args.mdb.now.extents_file_size) c.in-Some.runs.items = search rules in
    reads-on (g.S.BlockSource.image c.args.source.now) (g.S.BlockSource.image c.fetch_runs.new.source) c.args.count c.args.read.now c.fetch_runs.new.read
    c.gather_catalog.new.read c.in_ok-fetch_runs.ensures.image
    (reads-runs (g.S.BlockSource.image c.args.source.now) c.args.count c.over.result.below.now.count c.args.read.now c.fetch_runs.new.read c.in-Some.runs.items
    c.deref.result.now found.1.within (ap (λ (v : SparseVolume). v.count) c.over.ensures.below ∙ c.volume-volume.ensures.count) c.deref.ensures.value
    c.in_ok-fetch_runs.ensures.grown c.in_ok-fetch_runs.ensures.stays c.in_ok-fetch_runs.ensures.within)
    c.in_ok-gather_catalog.ensures.reads
