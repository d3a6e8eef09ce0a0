use Rattle.std.proofs.Common.{sym, ◌∙◌}
use Rattle.hfs_btree_edits.proofs.MapBitLemmas.{bit_of-set_same, bit_of-set_other, bit_of-clear_same, bit_of-clear_other}
use Rattle.hfs_btree_edits.proofs.map_bit.write_in.Goals as goal

pub returns-then-value-clause-here : goal.returns-then-value-clause-here
returns-then-value-clause-here c = bit_of-set_same c.args.bytes.now c.args.i c.requires ∙ sym c.if-value.true

pub returns-then-value-clause-others : goal.returns-then-value-clause-others
returns-then-value-clause-others c k apart = bit_of-set_other c.args.bytes.now c.args.i k c.requires apart

pub returns-else-value-clause-here : goal.returns-else-value-clause-here
returns-else-value-clause-here c = bit_of-clear_same c.args.bytes.now c.args.i c.requires ∙ sym c.if-value.false

pub returns-else-value-clause-others : goal.returns-else-value-clause-others
returns-else-value-clause-others c k apart = bit_of-clear_other c.args.bytes.now c.args.i k c.requires apart
