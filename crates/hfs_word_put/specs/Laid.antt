-- Why a list was not laid on a volume, as it is told.
use Rattle.std.specs.Prelude.{◌≡◌, ℕ, ℤ, List}
use Rattle.hfs_commands.specs.declared.fault.Fault.TheVariants as why
use Rattle.hfs_model.specs.declared.codes.TheConstants.{NOT_FOUND}
use Rattle.hfs_model.specs.declared.reply.Reply.{Reply}
use Rattle.hfs_model.specs.declared.reply.Value.{Value}
use Rattle.hfs_model.specs.declared.reply.Value.TheVariants as value
use Rattle.hfs_model.specs.Volume.{Volume}
use Rattle.hfs_put.specs.Laying.{IsFaultOfLaying}
use Rattle.hfs_put.specs.declared.faults.LayFault.{LayFault}
use Rattle.hfs_put.specs.declared.faults.LayFault.TheVariants as lay_fault
use Rattle.hfs_put_plan.specs.declared.items.PutItem.{PutItem}
use Rattle.hfs_put_sources.specs.Items.{PlannedItem}
use Rattle.hfs_check.specs.Parts.{Blocks, mdb_in}
use Rattle.hfs_word_put.specs.Sums.{wanted_of}
use Rattle.hfs_word_put.specs.declared.placing.PlacedList.{PlacedList}
use Rattle.hfs_word_put.specs.declared.fault.PutFault.{PutFault}
use Rattle.hfs_word_put.specs.declared.fault.PutFault.TheVariants as fault
use Rattle.hfs_word_put.specs.declared.laying.BlockWants.{BlockWants}
use Rattle.hfs_word_put.specs.declared.reason.PutReason.{PutReason}
use Rattle.hfs_word_put.specs.declared.reason.PutReason.TheVariants as reason
use Rattle.hfs_word_put.specs.Faults.{TellsBy}
use Rattle.hfs_word_put.specs.Lines.{line_at}

-- where blocks are wanting, those that are free and that all of it wants; where nodes are, those of the tree; else the code
abbrev pub reason_by : Value → ℤ → BlockWants → PutReason
reason_by (value.Room free wanted) code wants = reason.Room wants.free wants.wanted
reason_by (value.Full free depth) code wants = reason.Full free depth
reason_by (value.ExtentNodes free depth) code wants = reason.Full free depth
reason_by value.Nothing code wants = reason.Code code
reason_by (value.Id id) code wants = reason.Code code
reason_by (value.One info) code wants = reason.Code code
reason_by (value.Many infos) code wants = reason.Code code
reason_by (value.Bytes bytes) code wants = reason.Code code
reason_by (value.Place dir name) code wants = reason.Code code

abbrev pub reply_reason : Reply → BlockWants → PutReason
reply_reason reply wants = reason_by reply.value reply.code wants

-- the item at that place is told, with the reason
abbrev pub TellsLay : List PlannedItem → BlockWants → LayFault → PutFault → Type 0
TellsLay items wants lay_fault.NoMemory told = told ≡ fault.Image why.NoMemory
TellsLay items wants (lay_fault.Absent place) told = TellsBy (line_at items place (reason.Code NOT_FOUND)) told
TellsLay items wants (lay_fault.Refused place reply) told = TellsBy (line_at items place (reply_reason reply wants)) told

-- what is free on the volume of these blocks, and what a list wants
abbrev pub wants_of : Blocks → List PutItem → BlockWants
wants_of blocks places =
    record { free = (mdb_in blocks).free_blocks; wanted = wanted_of (mdb_in blocks).allocation_block_size places }

-- the list was not laid on the volume, which is that of this image then
pub record IsUnlaid (list : PlacedList) (now : ℕ) (items : List PlannedItem) (wants : BlockWants) (v : Volume) (image : List ℕ) (told : PutFault) : Type 0 where
  pub why : LayFault
  pub of : IsFaultOfLaying list.target now list.places.items v image why
  pub line : TellsLay items wants why told
