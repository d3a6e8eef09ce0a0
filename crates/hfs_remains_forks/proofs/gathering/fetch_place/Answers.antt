-- The block, and then those that it names.
use Rattle.std.proofs.Common.{◌∙◌}
use Rattle.hfs_image.proofs.Gathered.{reads-block, reads-on}
use Rattle.hfs_source.proofs.Seen.{sees_on}
use Rattle.hfs_remains_forks.proofs.gathering.fetch_place.Goals as goal

pub returns-clause-reads : goal.returns-clause-reads
returns-clause-reads g c =
    let image = g.S.BlockSource.image c.args.source.now in
    reads-on image (g.S.BlockSource.image c.fetch_beginning.new.source) c.args.count c.args.read.now c.fetch_beginning.new.read c.fetch_beginning-2.new.read
    (c.in_ok-fetch_beginning.ensures.image ∙ c.in_ok-fetch.ensures.image)
    (reads-on image (g.S.BlockSource.image c.fetch.new.source) c.args.count c.args.read.now c.fetch.new.read c.fetch_beginning.new.read c.in_ok-fetch.ensures.image
    (reads-block image c.args.count c.args.read.now c.fetch.new.read c.args.n c.requires c.in_ok-fetch.ensures.grown c.in_ok-fetch.ensures.stays c.in_ok-fetch.ensures.within)
    c.in_ok-fetch_beginning.ensures.reads)
    c.in_ok-fetch_beginning-2.ensures.reads

pub returns-in_err-fetch_beginning-clause-sees : goal.returns-in_err-fetch_beginning-clause-sees
returns-in_err-fetch_beginning-clause-sees g c = sees_on c.in_ok-fetch.ensures.sees c.in_err-fetch_beginning.ensures.sees

pub returns-in_err-fetch_beginning-2-clause-sees : goal.returns-in_err-fetch_beginning-2-clause-sees
returns-in_err-fetch_beginning-2-clause-sees g c =
    sees_on (sees_on c.in_ok-fetch.ensures.sees c.in_ok-fetch_beginning.ensures.sees) c.in_err-fetch_beginning-2.ensures.sees

pub returns-clause-sees : goal.returns-clause-sees
returns-clause-sees g c = sees_on (sees_on c.in_ok-fetch.ensures.sees c.in_ok-fetch_beginning.ensures.sees) c.in_ok-fetch_beginning-2.ensures.sees
