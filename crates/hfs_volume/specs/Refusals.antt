-- Images that are refused.
use Rattle.std.specs.Prelude.{ℕ, List}
use Rattle.hfs_check.specs.Answers.{IsFaultOf}
use Rattle.hfs_check.specs.Faults.{fault_of}
use Rattle.hfs_volume.specs.declared.mounting.Refused.{Refused}

-- the refusal has the first fault of these bytes, or memory was refused
abbrev pub HasFaultOf : List ℕ → Refused → Type 0
HasFaultOf image refused = IsFaultOf (fault_of image) refused.fault
