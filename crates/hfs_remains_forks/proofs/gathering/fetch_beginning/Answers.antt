-- The block is one of the image's.
use Rattle.hfs_image.proofs.Gathered.{reads-block}
use Rattle.hfs_remains_forks.proofs.gathering.fetch_beginning.Goals as goal

pub returns-clause-reads : goal.returns-clause-reads
returns-clause-reads g c =
    reads-block (g.S.BlockSource.image c.args.source.now) c.args.count c.args.read.now c.fetch.new.read c.in-Some.n c.in-Some.ensures.within
    c.in_ok-fetch.ensures.grown c.in_ok-fetch.ensures.stays c.in_ok-fetch.ensures.within
