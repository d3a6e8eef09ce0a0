-- Where what comes gets its place on a volume, and what is printed of what doesn't.
use Rattle.std.specs.Prelude.{◌≡◌, ℕ, ℤ, ◌==◌, if◌then◌else◌, Bool, List, [], ◌∷◌, length, map, Option, Some, None, Result, Ok, Err}
use Rattle.std.specs.Option.{option_or}
use Rattle.hfs_commands.specs.Listing.{code_line}
use Rattle.hfs_commands.specs.declared.fault.Fault.TheVariants.{NoMemory}
use Rattle.hfs_model.specs.declared.reply.Reply.{Reply}
use Rattle.hfs_model.specs.Children.{entries_of}
use Rattle.hfs_model.specs.Volume.{Volume}
use Rattle.hfs_put.specs.PlacedSources.{decisions, item_put, lock_code, refused_from}
use Rattle.hfs_put.specs.declared.placing.RefusedItem.{RefusedItem}
use Rattle.hfs_put_sources.specs.Items.{PlannedItem}
use Rattle.hfs_word_put.specs.declared.fault.PutFault.{PutFault}
use Rattle.hfs_word_put.specs.declared.fault.PutFault.TheVariants.{Image}
use Rattle.hfs_word_put.specs.declared.order.PutOrder.{PutOrder}
use Rattle.hfs_word_put.specs.declared.placing.PlacedList.{PlacedList}
use Rattle.hfs_word_put.specs.declared.reason.PutReason.TheVariants.{Code}
use Rattle.hfs_word_put.specs.Faults.{TellsBy}
use Rattle.hfs_word_put.specs.Lines.{line_at, refused_lines}
use Rattle.hfs_word_put.specs.Orders.{path_of}
use Rattle.hfs_word_put.specs.Targets.{target_folder}

-- ---- what can't be put

-- where the target is no folder
abbrev pub target_line : Result ℕ Reply → Option (List ℕ)
target_line (Ok target) = None
target_line (Err reply) = Some (code_line reply)

-- of a locked volume, where anything comes: the code of its first item
abbrev pub locked_line : Option ℤ → List PlannedItem → Option (List ℕ)
locked_line (Some code) items = if length items == 0 then None else Some (line_at items 0 (Code code))
locked_line None items = None

-- of the items that can't be put, where there are any
abbrev pub lines_told : List PlannedItem → List RefusedItem → Option (List ℕ)
lines_told items [] = None
lines_told items (first ∷ others) = Some (refused_lines items (first ∷ others))

abbrev pub places_told : Volume → Bool → List PlannedItem → ℕ → Option (List ℕ)
places_told v replace items target = lines_told items (refused_from 0 (decisions v target replace items))

-- where the target is no folder, that alone
abbrev pub refusal_by : Result ℕ Reply → Volume → Bool → List PlannedItem → Option (List ℕ)
refusal_by (Err reply) v replace items = Some (code_line reply)
refusal_by (Ok target) v replace items = option_or (locked_line (lock_code v) items) (places_told v replace items target)

-- the lines of what can't be put on a volume; none where all can
abbrev pub refusal : Volume → PutOrder → List PlannedItem → Option (List ℕ)
refusal v order items = refusal_by (target_folder (entries_of v) (path_of order)) v order.replace items

-- these lines are told, or there was no memory
abbrev pub TellsAny : Option (List ℕ) → PutFault → Type 0
TellsAny (Some lines) told = TellsBy lines told
TellsAny None told = told ≡ Image NoMemory

-- ---- what is put

-- into this folder, and each item in this place
pub record IsPlaced (v : Volume) (order : PutOrder) (items : List PlannedItem) (list : PlacedList) : Type 0 where
  pub target : target_folder (entries_of v) (path_of order) ≡ Ok list.target
  pub places : map item_put (decisions v list.target order.replace items) ≡ map Some list.places.items
  pub whole : refusal v order items ≡ None
