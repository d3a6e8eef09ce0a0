-- The bitmap, and both trees behind it.
use Rattle.std.proofs.Common.{◌+◌, ◌≤◌, arith}
use Rattle.hfs_image.proofs.Gathered.{reads-range, reads-on}
use Rattle.hfs_copy.proofs.ReadParts.{is-later}
use Rattle.hfs_copy.proofs.gathering.gather_rest.Goals as goal

pub returns-in_err-fetch_range-clause-reads : goal.returns-in_err-fetch_range-clause-reads
returns-in_err-fetch_range-clause-reads g c =
    let le : c.from-first.result + c.div_ceil-blocks.result ≤ c.args.count =
    omega (arith, c.from-first.ensures, c.from.ensures, c.div_ceil-blocks.ensures, c.requires.sound.bitmap_before, c.requires.sound.area) in
    reads-range (g.S.BlockSource.image c.args.source.now) c.args.count c.args.read.now c.fetch_range.new.read c.from-first.result c.div_ceil-blocks.result le
    c.in_err-fetch_range.ensures.grown c.in_err-fetch_range.ensures.stays c.in_err-fetch_range.ensures.within

pub gather_trees-requires-clause-is : goal.gather_trees-requires-clause-is
gather_trees-requires-clause-is g c =
    is-later c.args.patch.now c.args.read.now c.fetch_range.new.read c.in_ok-fetch_range.ensures.grown c.args.mdb.now c.requires.has_mdb c.requires.is

pub returns-in_err-gather_trees-clause-reads : goal.returns-in_err-gather_trees-clause-reads
returns-in_err-gather_trees-clause-reads g c =
    let le : c.from-first.result + c.div_ceil-blocks.result ≤ c.args.count =
    omega (arith, c.from-first.ensures, c.from.ensures, c.div_ceil-blocks.ensures, c.requires.sound.bitmap_before, c.requires.sound.area) in
    reads-on (g.S.BlockSource.image c.args.source.now) (g.S.BlockSource.image c.fetch_range.new.source) c.args.count c.args.read.now c.fetch_range.new.read
    c.gather_trees.new.read c.in_ok-fetch_range.ensures.image
    (reads-range (g.S.BlockSource.image c.args.source.now) c.args.count c.args.read.now c.fetch_range.new.read c.from-first.result c.div_ceil-blocks.result le
    c.in_ok-fetch_range.ensures.grown c.in_ok-fetch_range.ensures.stays c.in_ok-fetch_range.ensures.within)
    c.in_err-gather_trees.ensures.reads

pub returns-clause-reads : goal.returns-clause-reads
returns-clause-reads g c =
    let le : c.from-first.result + c.div_ceil-blocks.result ≤ c.args.count =
    omega (arith, c.from-first.ensures, c.from.ensures, c.div_ceil-blocks.ensures, c.requires.sound.bitmap_before, c.requires.sound.area) in
    reads-on (g.S.BlockSource.image c.args.source.now) (g.S.BlockSource.image c.fetch_range.new.source) c.args.count c.args.read.now c.fetch_range.new.read
    c.gather_trees.new.read c.in_ok-fetch_range.ensures.image
    (reads-range (g.S.BlockSource.image c.args.source.now) c.args.count c.args.read.now c.fetch_range.new.read c.from-first.result c.div_ceil-blocks.result le
    c.in_ok-fetch_range.ensures.grown c.in_ok-fetch_range.ensures.stays c.in_ok-fetch_range.ensures.within)
    c.in_ok-gather_trees.ensures.reads
