-- What is lacking of the bytes is what the extents that are left lack.
use Rattle.std.proofs.Common.{◌≡◌, ◌-◌, drop}
use Rattle.hfs_volume.proofs.ExtentBytes.{byte_count}
use Rattle.hfs_volume.proofs.extent_bytes.lacking.Given as goal

abbrev pub invariant-loop-extent : goal.invariant-loop-extent
invariant-loop-extent l = l.left - byte_count l.mdb (drop l.extent-index l.extents) ≡ l.wanted - byte_count l.mdb l.extents
