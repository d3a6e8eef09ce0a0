use Rattle.hfs_btree_edits.proofs.FullByteLemmas.{full_more}
use Rattle.hfs_btree_edits.proofs.map_bit.full_bytes.Goals as goal

pub loop-i-preserved : goal.loop-i-preserved
loop-i-preserved c = full_more c.args.bytes.now c.loop-i.i c.loop-i.invariant (cc)
