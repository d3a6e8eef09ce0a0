-- How many calls an item has.
use Rattle.std.proofs.Common.{ℕ, ◌≤◌, length, arith}
use Rattle.hfs_model.specs.declared.reply.ItemKind.{ItemKind}
use Rattle.hfs_model.specs.declared.reply.ItemKind.TheVariants.{Folder, File}
use Rattle.hfs_put_plan.specs.declared.over.Placing.{Placing}
use Rattle.hfs_put_plan.specs.declared.over.Placing.TheVariants.{New, Kept, Replaced, Taken}
use Rattle.hfs_put_plan.specs.declared.calls.TheConstants.{MAKING_CALLS, ENDING_CALLS}
use Rattle.hfs_put_plan.specs.declared.items.PutItem.{PutItem}
use Rattle.hfs_put_plan.specs.Calls.{making_of, folder_ending, ending_of}
use Rattle.hfs_put_plan.specs.Laws.{AreFew}

pub few-making : (kind : ItemKind) (dir : ℕ) (item : PutItem) (now : ℕ) → length (making_of kind dir item now) ≤ MAKING_CALLS
few-making Folder dir item now = omega arith
few-making File dir item now = omega arith

pub few-folder : (dir : ℕ) (item : PutItem) (placing : Placing) (now : ℕ) → length (folder_ending dir item placing now) ≤ ENDING_CALLS
few-folder dir item New now = omega arith
few-folder dir item Kept now = omega arith
few-folder dir item (Replaced locked) now = omega arith
few-folder dir item Taken now = omega arith

pub few-ending : (kind : ItemKind) (dir : ℕ) (item : PutItem) (now : ℕ) → length (ending_of kind dir item now) ≤ ENDING_CALLS
few-ending Folder dir item now = few-folder dir item item.placing now
few-ending File dir item now = omega arith

pub calls_are_few : AreFew
calls_are_few = record { makings = λ dir item now. few-making item.kind dir item now; endings = λ dir item now. few-ending item.kind dir item now }
