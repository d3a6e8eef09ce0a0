use Rattle.hfs_remains_forks.proofs.CodeLemmas.{knows-more}
use Rattle.hfs_remains_forks.proofs.chains.places_of.Goals as goal

pub loop-i-preserved : goal.loop-i-preserved
loop-i-preserved c =
    knows-more c.loop-i.places c.note.new.places c.args.records.now c.loop-i.i c.index-records-i.result c.loop-i-test.true c.index-records-i.is c.in_ok-note.ensures c.loop-i.invariant
