-- The catalog, where it is found by what was read.
use Rattle.std.proofs.Common.{◌≡◌, true, false, ap, sym, ◌∙◌, rules}
use Rattle.std.specs.List.{flat_map}
use Rattle.hfs_blocks.specs.Blocks.{run_of}
use Rattle.hfs_blocks.specs.Layers.{changes, over}
use Rattle.hfs_source.specs.declared.volume.SparseVolume.{SparseVolume}
use Rattle.hfs_source.specs.Sparse.{sparse}
use Rattle.hfs_space.specs.TreeFiles.{tree_blocks}
use Rattle.hfs_check.specs.Parts.{Blocks}
use Rattle.hfs_image.specs.Gathered.{LieAt}
use Rattle.hfs_repair.specs.Opened.{catalog_file_of}
use Rattle.hfs_copy.specs.Found.{has_catalog}
use Rattle.hfs_copy.proofs.ReadParts.{decides-no-catalog, decides-all, reads-runs, seen-is}
use Rattle.hfs_copy.proofs.gathering.gather_catalog.Goals as goal

pub returns-in_default-found-clause-decides : goal.returns-in_default-found-clause-decides
returns-in_default-found-clause-decides g c =
    let seen = over (changes c.over.result.patch.now) (sparse c.over.result.below.now.read.now) in
    let is = seen-is c.over.result.patch.now c.args.patch.now c.over.result.below.now.read.now c.args.read.now c.over.ensures.patch
    (ap (λ (v : SparseVolume). v.read.now) c.over.ensures.below ∙ c.volume.ensures.read) in
    let none : has_catalog seen c.args.mdb.now ≡ false = search rules in
    decides-no-catalog c.args.count c.args.patch.now c.args.read.now c.args.mdb.now c.requires.has_mdb
    c.requires.has_extents c.requires.sound c.requires.is (ap (λ (b : Blocks). has_catalog b c.args.mdb.now) (sym is) ∙ none)

pub returns-in_err-fetch_runs-clause-reads : goal.returns-in_err-fetch_runs-clause-reads
returns-in_err-fetch_runs-clause-reads g c =
    let seen = over (changes c.over.result.patch.now) (sparse c.over.result.below.now.read.now) in
    let found : (has_catalog seen c.args.mdb.now ≡ true)
    × LieAt c.over.result.below.now.count (tree_blocks c.args.mdb.now (catalog_file_of seen c.args.mdb.now) c.args.mdb.now.catalog_file_size) c.in-Some.runs.items = search rules in
    reads-runs (g.S.BlockSource.image c.args.source.now) c.args.count c.over.result.below.now.count c.args.read.now c.fetch_runs.new.read c.in-Some.runs.items
    c.deref.result.now found.1.within (ap (λ (v : SparseVolume). v.count) c.over.ensures.below ∙ c.volume.ensures.count) c.deref.ensures.value
    c.in_err-fetch_runs.ensures.grown c.in_err-fetch_runs.ensures.stays c.in_err-fetch_runs.ensures.within

pub returns-clause-decides : goal.returns-clause-decides
returns-clause-decides g c =
    let seen = over (changes c.over.result.patch.now) (sparse c.over.result.below.now.read.now) in
    let is = seen-is c.over.result.patch.now c.args.patch.now c.over.result.below.now.read.now c.args.read.now c.over.ensures.patch
    (ap (λ (v : SparseVolume). v.read.now) c.over.ensures.below ∙ c.volume.ensures.read) in
    let found : (has_catalog seen c.args.mdb.now ≡ true)
    × LieAt c.over.result.below.now.count (tree_blocks c.args.mdb.now (catalog_file_of seen c.args.mdb.now) c.args.mdb.now.catalog_file_size) c.in-Some.runs.items = search rules in
    decides-all c.args.count c.args.patch.now c.args.read.now c.fetch_runs.new.read c.args.mdb.now c.deref.result.now
    c.in_ok-fetch_runs.ensures.grown c.requires.has_mdb c.requires.has_bitmap c.requires.has_extents c.requires.is
    (ap (flat_map run_of) c.deref.ensures.value ∙ found.1.numbers
    ∙ ap (λ (b : Blocks). tree_blocks c.args.mdb.now (catalog_file_of b c.args.mdb.now) c.args.mdb.now.catalog_file_size) is)
    c.in_ok-fetch_runs.ensures.has

pub returns-clause-reads : goal.returns-clause-reads
returns-clause-reads g c =
    let seen = over (changes c.over.result.patch.now) (sparse c.over.result.below.now.read.now) in
    let found : (has_catalog seen c.args.mdb.now ≡ true)
    × LieAt c.over.result.below.now.count (tree_blocks c.args.mdb.now (catalog_file_of seen c.args.mdb.now) c.args.mdb.now.catalog_file_size) c.in-Some.runs.items = search rules in
    reads-runs (g.S.BlockSource.image c.args.source.now) c.args.count c.over.result.below.now.count c.args.read.now c.fetch_runs.new.read c.in-Some.runs.items
    c.deref.result.now found.1.within (ap (λ (v : SparseVolume). v.count) c.over.ensures.below ∙ c.volume.ensures.count) c.deref.ensures.value
    c.in_ok-fetch_runs.ensures.grown c.in_ok-fetch_runs.ensures.stays c.in_ok-fetch_runs.ensures.within
