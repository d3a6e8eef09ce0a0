-- the items so far count this
use Rattle.hfs_rescue_items.proofs.SumLemmas.{AreFirst}
use Rattle.hfs_rescue_items.proofs.sums.sums_of.Given as goal

abbrev pub invariant-loop-i : goal.invariant-loop-i
invariant-loop-i l = AreFirst l.found l.i l.sums
