-- The jumps so far are as many steps as two to the power of the bits.
use Rattle.std.proofs.Common.{◌≡◌, ◌^◌, ◌-◌, ◌≤◌, length}
use Rattle.hfs_remains_places.specs.Chains.{LeadBy}
use Rattle.hfs_remains_places.proofs.chains.far_jumps.Given as goal

abbrev pub invariant-loop-bits : goal.invariant-loop-bits
invariant-loop-bits l = record {
  lead : LeadBy (2 ^ l.bits) l.ups l.jumps.items;
  all : length l.jumps.items ≡ length l.ups;
  most : l.bits ≤ 32;
}

abbrev pub decreases-loop-bits : goal.decreases-loop-bits
decreases-loop-bits l = 32 - l.bits
