-- The copy of the master directory block, the bitmap and both trees, one behind the other.
use Rattle.std.proofs.Common.{◌≡◌, ◌+◌, ◌-◌, ◌<◌, ◌≤◌, ap, sym, ◌∙◌, arith}
use Rattle.std.specs.List.{range_with_len}
use Rattle.hfs_fields.specs.declared.mdb.Mdb.{Mdb}
use Rattle.hfs_space.specs.Bitmap.{bitmap_len}
use Rattle.hfs_check.specs.Agree.{bitmap_blocks}
use Rattle.hfs_source.proofs.SparseLemmas.{grown-on}
use Rattle.hfs_image.proofs.Gathered.{reads-block, reads-range, reads-on, mdb-stays, needs_all}
use Rattle.hfs_source.proofs.Seen.{sees_on}
use Rattle.hfs_image.proofs.gathering.gather_rest.Goals as goal

pub returns-in_err-fetch-clause-reads : goal.returns-in_err-fetch-clause-reads
returns-in_err-fetch-clause-reads g c =
    let lt : c.args.count - 2 < c.args.count = omega (arith, c.requires.some) in
    reads-block (g.S.BlockSource.image c.args.source.now) c.args.count c.args.read.now c.fetch.new.read (c.args.count - 2) lt
    c.in_err-fetch.ensures.grown c.in_err-fetch.ensures.stays c.in_err-fetch.ensures.within

pub returns-in_err-fetch_range-clause-reads : goal.returns-in_err-fetch_range-clause-reads
returns-in_err-fetch_range-clause-reads g c =
    let lt : c.args.count - 2 < c.args.count = omega (arith, c.requires.some) in
    let le : c.from-first.result + c.div_ceil-blocks.result ≤ c.args.count =
    omega (arith, c.from-first.ensures, c.from.ensures, c.div_ceil-blocks.ensures, c.requires.sound.bitmap_before, c.requires.sound.area) in
    reads-on (g.S.BlockSource.image c.args.source.now) (g.S.BlockSource.image c.fetch.new.source) c.args.count c.args.read.now c.fetch.new.read c.fetch_range.new.read c.in_ok-fetch.ensures.image
    (reads-block (g.S.BlockSource.image c.args.source.now) c.args.count c.args.read.now c.fetch.new.read (c.args.count - 2) lt
    c.in_ok-fetch.ensures.grown c.in_ok-fetch.ensures.stays c.in_ok-fetch.ensures.within)
    (reads-range (g.S.BlockSource.image c.fetch.new.source) c.args.count c.fetch.new.read c.fetch_range.new.read c.from-first.result c.div_ceil-blocks.result le
    c.in_err-fetch_range.ensures.grown c.in_err-fetch_range.ensures.stays c.in_err-fetch_range.ensures.within)

pub gather_trees-requires-clause-is : goal.gather_trees-requires-clause-is
gather_trees-requires-clause-is g c =
    let grown = grown-on c.args.read.now c.fetch.new.read c.fetch_range.new.read c.in_ok-fetch.ensures.grown c.in_ok-fetch_range.ensures.grown in
    c.requires.is ∙ sym (mdb-stays c.args.read.now c.fetch_range.new.read grown c.requires.has_mdb)

pub returns-in_err-gather_trees-clause-reads : goal.returns-in_err-gather_trees-clause-reads
returns-in_err-gather_trees-clause-reads g c =
    let lt : c.args.count - 2 < c.args.count = omega (arith, c.requires.some) in
    let le : c.from-first.result + c.div_ceil-blocks.result ≤ c.args.count =
    omega (arith, c.from-first.ensures, c.from.ensures, c.div_ceil-blocks.ensures, c.requires.sound.bitmap_before, c.requires.sound.area) in
    reads-on (g.S.BlockSource.image c.args.source.now) (g.S.BlockSource.image c.fetch_range.new.source) c.args.count c.args.read.now c.fetch_range.new.read c.gather_trees.new.read
    (c.in_ok-fetch_range.ensures.image ∙ c.in_ok-fetch.ensures.image)
    (reads-on (g.S.BlockSource.image c.args.source.now) (g.S.BlockSource.image c.fetch.new.source) c.args.count c.args.read.now c.fetch.new.read c.fetch_range.new.read c.in_ok-fetch.ensures.image
    (reads-block (g.S.BlockSource.image c.args.source.now) c.args.count c.args.read.now c.fetch.new.read (c.args.count - 2) lt
    c.in_ok-fetch.ensures.grown c.in_ok-fetch.ensures.stays c.in_ok-fetch.ensures.within)
    (reads-range (g.S.BlockSource.image c.fetch.new.source) c.args.count c.fetch.new.read c.fetch_range.new.read c.from-first.result c.div_ceil-blocks.result le
    c.in_ok-fetch_range.ensures.grown c.in_ok-fetch_range.ensures.stays c.in_ok-fetch_range.ensures.within))
    c.in_err-gather_trees.ensures.reads

pub returns-clause-reads : goal.returns-clause-reads
returns-clause-reads g c =
    let lt : c.args.count - 2 < c.args.count = omega (arith, c.requires.some) in
    let le : c.from-first.result + c.div_ceil-blocks.result ≤ c.args.count =
    omega (arith, c.from-first.ensures, c.from.ensures, c.div_ceil-blocks.ensures, c.requires.sound.bitmap_before, c.requires.sound.area) in
    reads-on (g.S.BlockSource.image c.args.source.now) (g.S.BlockSource.image c.fetch_range.new.source) c.args.count c.args.read.now c.fetch_range.new.read c.gather_trees.new.read
    (c.in_ok-fetch_range.ensures.image ∙ c.in_ok-fetch.ensures.image)
    (reads-on (g.S.BlockSource.image c.args.source.now) (g.S.BlockSource.image c.fetch.new.source) c.args.count c.args.read.now c.fetch.new.read c.fetch_range.new.read c.in_ok-fetch.ensures.image
    (reads-block (g.S.BlockSource.image c.args.source.now) c.args.count c.args.read.now c.fetch.new.read (c.args.count - 2) lt
    c.in_ok-fetch.ensures.grown c.in_ok-fetch.ensures.stays c.in_ok-fetch.ensures.within)
    (reads-range (g.S.BlockSource.image c.fetch.new.source) c.args.count c.fetch.new.read c.fetch_range.new.read c.from-first.result c.div_ceil-blocks.result le
    c.in_ok-fetch_range.ensures.grown c.in_ok-fetch_range.ensures.stays c.in_ok-fetch_range.ensures.within))
    c.in_ok-gather_trees.ensures.reads

pub returns-clause-has : goal.returns-clause-has
returns-clause-has g c =
    let start : c.from-first.result ≡ c.args.mdb.now.bitmap_start = omega (arith, c.from-first.ensures) in
    let long : c.div_ceil-blocks.result ≡ bitmap_len c.args.mdb.now.allocation_blocks = omega (arith, c.from.ensures, c.div_ceil-blocks.ensures) in
    let is : range_with_len c.from-first.result c.div_ceil-blocks.result ≡ bitmap_blocks c.args.mdb.now = λ i. range_with_len (start i) (long i) in
    needs_all c.args.count c.args.read.now c.fetch.new.read c.fetch_range.new.read c.gather_trees.new.read
    (range_with_len c.from-first.result c.div_ceil-blocks.result) (is ∙ ap (λ (m : Mdb). bitmap_blocks m) c.requires.is)
    c.in_ok-fetch.ensures.grown c.in_ok-fetch_range.ensures.grown c.in_ok-gather_trees.ensures.reads.grown c.requires.has_mdb c.in_ok-fetch.ensures.has
    c.in_ok-fetch_range.ensures.has c.in_ok-gather_trees.ensures.has

pub returns-in_err-fetch_range-clause-sees : goal.returns-in_err-fetch_range-clause-sees
returns-in_err-fetch_range-clause-sees g c = sees_on c.in_ok-fetch.ensures.sees c.in_err-fetch_range.ensures.sees

pub returns-in_err-gather_trees-clause-sees : goal.returns-in_err-gather_trees-clause-sees
returns-in_err-gather_trees-clause-sees g c = sees_on (sees_on c.in_ok-fetch.ensures.sees c.in_ok-fetch_range.ensures.sees) c.in_err-gather_trees.ensures.sees

pub returns-clause-sees : goal.returns-clause-sees
returns-clause-sees g c = sees_on (sees_on c.in_ok-fetch.ensures.sees c.in_ok-fetch_range.ensures.sees) c.in_ok-gather_trees.ensures.sees
