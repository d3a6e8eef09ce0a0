-- Sums and jumps so far are those of as many records as two to the power of the bits.
use Rattle.std.proofs.Common.{◌≡◌, ◌+◌, ◌^◌, ◌-◌, ◌≤◌, length}
use Rattle.hfs_remains_places.specs.Chains.{LeadBy}
use Rattle.hfs_remains_forks.specs.Chains.{SumBy, AreBelow}
use Rattle.hfs_remains_forks.proofs.chains.far_sums.Given as goal

abbrev pub invariant-loop-bits : goal.invariant-loop-bits
invariant-loop-bits l = record {
  sum : SumBy (2 ^ l.bits) l.fn.owns.items l.fn.nexts.items l.sums.items;
  lead : LeadBy (2 ^ l.bits) l.fn.nexts.items l.jumps.items;
  all : length l.jumps.items ≡ length l.sums.items;
  fit : AreBelow (2 ^ (l.bits + 18)) l.sums.items;
  most : l.bits ≤ 16;
}

abbrev pub decreases-loop-bits : goal.decreases-loop-bits
decreases-loop-bits l = 16 - l.bits
