-- Why calls were not made.
use Rattle.std.specs.Prelude.{◌≡◌, ◌⊎◌, ℕ, IsTrue, ⊤, List, Result, Err}
use Rattle.hfs_model.specs.declared.call.Call.{Call}
use Rattle.hfs_model.specs.declared.codes.TheConstants.{DISK_FULL}
use Rattle.hfs_model.specs.declared.reply.Reply.{Reply}
use Rattle.hfs_model.specs.Replies.{is_accepted}
use Rattle.hfs_model.specs.Step.{step}
use Rattle.hfs_check.specs.VolumeOf.{volume_of}
use Rattle.hfs_volume.specs.Serving.{IsOutcomeIn}
use Rattle.hfs_put_plan.specs.Put.{Refused}
use Rattle.hfs_put.specs.declared.faults.CallFault.{CallFault}
use Rattle.hfs_put.specs.declared.faults.CallFault.TheVariants as call_fault
use Rattle.hfs_put.specs.declared.faults.LayFault.{LayFault}
use Rattle.hfs_put.specs.declared.faults.LayFault.TheVariants as lay_fault

-- the reply of a call that would be done otherwise: the image needs room for it, or nodes
pub record IsWanting (image : List ℕ) (reply : Reply) : Type 0 where
  pub call : Call
  pub done : IsTrue (is_accepted (step (volume_of image) call).1)
  pub outcome : IsOutcomeIn image call (volume_of image, reply)
  pub full : reply.code ≡ DISK_FULL

-- the fault of calls that end so, and leave this image
abbrev pub IsCallFault : {A : Type 0} → Result A Reply → List ℕ → CallFault → Type 0
IsCallFault r image call_fault.NoMemory = ⊤
IsCallFault r image (call_fault.Refused reply) = (r ≡ Err reply) ⊎ IsWanting image reply

-- the same of calls of the items of a list
abbrev pub IsLayFault : {A : Type 0} → Result A Refused → List ℕ → LayFault → Type 0
IsLayFault r image lay_fault.NoMemory = ⊤
IsLayFault r image (lay_fault.Absent place) = ⊤
IsLayFault r image (lay_fault.Refused place reply) = (r ≡ Err (record { place = place; reply = reply })) ⊎ IsWanting image reply

-- the item at this place alone may be reported as absent, where this holds
abbrev pub IsAbsentAt : ℕ → Type 0 → LayFault → Type 0
IsAbsentAt place Fact lay_fault.NoMemory = ⊤
IsAbsentAt place Fact (lay_fault.Absent at) = (at ≡ place) × Fact
IsAbsentAt place Fact (lay_fault.Refused at reply) = ⊤

-- no item is reported as absent
abbrev pub IsNoAbsence : LayFault → Type 0
IsNoAbsence fault = IsAbsentAt 0 ⊥ fault

abbrev pub fault_at : ℕ → CallFault → LayFault
fault_at place call_fault.NoMemory = lay_fault.NoMemory
fault_at place (call_fault.Refused reply) = lay_fault.Refused place reply
