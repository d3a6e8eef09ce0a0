-- One place, and then the other.
use Rattle.hfs_image.proofs.Gathered.{reads-on}
use Rattle.hfs_remains_forks.proofs.GatherLemmas.{places-read}
use Rattle.hfs_source.proofs.Seen.{sees_on}
use Rattle.hfs_remains_forks.proofs.gathering.fetch_places.Goals as goal

pub returns-clause-has : goal.returns-clause-has
returns-clause-has g c =
    places-read c.args.count c.fetch_place.new.read c.fetch_place-2.new.read c.in_ok-fetch_place-2.ensures.reads.grown c.in_ok-fetch_place.ensures.has
    c.in_ok-fetch_place-2.ensures.has

pub returns-clause-reads : goal.returns-clause-reads
returns-clause-reads g c =
    reads-on (g.S.BlockSource.image c.args.source.now) (g.S.BlockSource.image c.fetch_place.new.source) c.args.count c.args.read.now c.fetch_place.new.read
    c.fetch_place-2.new.read c.in_ok-fetch_place.ensures.image c.in_ok-fetch_place.ensures.reads c.in_ok-fetch_place-2.ensures.reads

pub returns-in_err-fetch_place-2-clause-sees : goal.returns-in_err-fetch_place-2-clause-sees
returns-in_err-fetch_place-2-clause-sees g c = sees_on c.in_ok-fetch_place.ensures.sees c.in_err-fetch_place-2.ensures.sees

pub returns-clause-sees : goal.returns-clause-sees
returns-clause-sees g c = sees_on c.in_ok-fetch_place.ensures.sees c.in_ok-fetch_place-2.ensures.sees
