-- one thing more
use Rattle.hfs_remains_page.proofs.TreeLemmas.{folders_more}
use Rattle.hfs_remains_page.proofs.numbers.folders_of.Goals as goal

pub loop-i-preserved : goal.loop-i-preserved
loop-i-preserved c =
    folders_more c.loop-i.folders c.note_folder.new.folders c.args.things.now c.loop-i.i c.index-things-i.result c.index-things-i.result c.loop-i-test.true c.index-things-i.is
    c.in_ok-note_folder.ensures c.loop-i.invariant
