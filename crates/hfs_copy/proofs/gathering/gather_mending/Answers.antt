-- The master directory block, and what stands behind a right one.
use Rattle.std.proofs.Common.{◌≡◌, ◌<◌, true, ap, sym, ◌∙◌, arith, rules}
use Rattle.std.specs.Prelude.{is_some}
use Rattle.hfs_blocks.specs.Layers.{changes, over}
use Rattle.hfs_source.specs.declared.volume.SparseVolume.{SparseVolume}
use Rattle.hfs_source.specs.Sparse.{sparse}
use Rattle.hfs_check.specs.Faults as faults
use Rattle.hfs_check.specs.Parts.{Blocks, mdb_in}
use Rattle.hfs_image.proofs.Gathered.{reads-block, reads-on}
use Rattle.hfs_copy.proofs.ReadParts.{decides-directory, seen-is}
use Rattle.hfs_copy.proofs.gathering.gather_mending.Goals as goal

pub returns-in_err-fetch-clause-reads : goal.returns-in_err-fetch-clause-reads
returns-in_err-fetch-clause-reads g c =
    let lt : 2 < c.args.count = omega (arith, c.requires.some) in
    reads-block (g.S.BlockSource.image c.args.source.now) c.args.count c.args.read.now c.fetch.new.read 2 lt
    c.in_err-fetch.ensures.grown c.in_err-fetch.ensures.stays c.in_err-fetch.ensures.within

pub returns-then-is_some-clause-decides : goal.returns-then-is_some-clause-decides
returns-then-is_some-clause-decides g c =
    let seen = over (changes c.over.result.patch.now) (sparse c.over.result.below.now.read.now) in
    let is = seen-is c.over.result.patch.now c.args.patch.now c.over.result.below.now.read.now c.fetch.new.read c.over.ensures.patch
    (ap (λ (v : SparseVolume). v.read.now) c.over.ensures.below ∙ c.volume.ensures.read) in
    let wrong : is_some (faults.mdb_fault c.args.count (mdb_in seen)) ≡ true = search rules in
    decides-directory c.args.count c.args.patch.now c.fetch.new.read c.in_ok-fetch.ensures.has
    (ap (λ (b : Blocks). is_some (faults.mdb_fault c.args.count (mdb_in b))) (sym is) ∙ wrong)

pub returns-then-is_some-clause-reads : goal.returns-then-is_some-clause-reads
returns-then-is_some-clause-reads g c =
    let lt : 2 < c.args.count = omega (arith, c.requires.some) in
    reads-block (g.S.BlockSource.image c.args.source.now) c.args.count c.args.read.now c.fetch.new.read 2 lt
    c.in_ok-fetch.ensures.grown c.in_ok-fetch.ensures.stays c.in_ok-fetch.ensures.within

pub returns-in_err-gather_rest-clause-reads : goal.returns-in_err-gather_rest-clause-reads
returns-in_err-gather_rest-clause-reads g c =
    let lt : 2 < c.args.count = omega (arith, c.requires.some) in
    reads-on (g.S.BlockSource.image c.args.source.now) (g.S.BlockSource.image c.fetch.new.source) c.args.count c.args.read.now c.fetch.new.read
    c.gather_rest.new.read c.in_ok-fetch.ensures.image
    (reads-block (g.S.BlockSource.image c.args.source.now) c.args.count c.args.read.now c.fetch.new.read 2 lt
    c.in_ok-fetch.ensures.grown c.in_ok-fetch.ensures.stays c.in_ok-fetch.ensures.within)
    c.in_err-gather_rest.ensures.reads

pub returns-clause-reads : goal.returns-clause-reads
returns-clause-reads g c =
    let lt : 2 < c.args.count = omega (arith, c.requires.some) in
    reads-on (g.S.BlockSource.image c.args.source.now) (g.S.BlockSource.image c.fetch.new.source) c.args.count c.args.read.now c.fetch.new.read
    c.gather_rest.new.read c.in_ok-fetch.ensures.image
    (reads-block (g.S.BlockSource.image c.args.source.now) c.args.count c.args.read.now c.fetch.new.read 2 lt
    c.in_ok-fetch.ensures.grown c.in_ok-fetch.ensures.stays c.in_ok-fetch.ensures.within)
    c.in_ok-gather_rest.ensures.reads
