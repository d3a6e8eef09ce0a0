-- What is told where nothing is put on a volume: never that its image can't be read.
use Rattle.std.proofs.Common.{◌≡◌, ℕ, List, Option, Some, None, refl, sym, subst, inl, inr, ⊎_elim}
use Rattle.std.specs.Borrow.{Bor}
use Rattle.hfs_commands.specs.declared.watched_range.WatchedRange.{WatchedRange}
use Rattle.hfs_commands.specs.declared.fault.Fault.TheVariants.{NoMemory}
use Rattle.hfs_put.specs.declared.faults.LayFault.{LayFault}
use Rattle.hfs_put.specs.declared.faults.LayFault.TheVariants as lay_fault
use Rattle.hfs_put_sources.specs.declared.fault.HostFault.{HostFault}
use Rattle.hfs_put_sources.specs.Items.{PlannedItem}
use Rattle.hfs_put_sources.specs.Trees.{Tree}
use Rattle.hfs_check.specs.VolumeOf.{volume_of}
use Rattle.hfs_word_put.specs.declared.fault.PutFault.{PutFault}
use Rattle.hfs_word_put.specs.declared.fault.PutFault.TheVariants as fault
use Rattle.hfs_word_put.specs.declared.laying.BlockWants.{BlockWants}
use Rattle.hfs_word_put.specs.declared.order.PutOrder.{PutOrder}
use Rattle.hfs_word_put.specs.Faults.{SparesImage, TellsBy}
use Rattle.hfs_word_put.specs.Laid.{TellsLay}
use Rattle.hfs_word_put.specs.Placed.{TellsAny, refusal}
use Rattle.hfs_word_put.specs.Put.{IsRefusedOn, IsUnputOn, IsUnputSources}

by-memory : (told : PutFault) → told ≡ fault.Image NoMemory → SparesImage told
by-memory told e = subst SparesImage (sym e) refl

by-lines : (lines : List ℕ) (told : PutFault) → TellsBy lines told → SparesImage told
by-lines lines (fault.Image found) is = is
by-lines lines (fault.CannotRead path) is = tt
by-lines lines (fault.Refused text) is = tt

by-any : (lines : Option (List ℕ)) (told : PutFault) → TellsAny lines told → SparesImage told
by-any (Some lines) told is = by-lines lines told is
by-any None told is = by-memory told is

by-lay : (items : List PlannedItem) (wants : BlockWants) (why : LayFault) (told : PutFault) → TellsLay items wants why told → SparesImage told
by-lay items wants lay_fault.NoMemory told is = by-memory told is
by-lay items wants (lay_fault.Absent place) told is = by-lines _ told is
by-lay items wants (lay_fault.Refused place reply) told is = by-lines _ told is

-- where a list was not put
pub unput : (order : PutOrder) (copy : List ℕ) (items : List PlannedItem) (told : PutFault) → IsUnputOn order copy items told → SparesImage told
unput order copy items told =
    ⊎_elim (λ (is : TellsAny (refusal (volume_of copy) order items) told). by-any _ told is)
    (λ (is : IsRefusedOn order copy items told). by-lay items _ is.unlaid.why told is.unlaid.line)

-- where memory is wanting, nothing more need be known
pub for_memory : {S T : Type 0} (Files : S → List ℕ → Type 0) (Fails : T → HostFault → Type 0) (Hosts : T → Tree → Type 0) (range : WatchedRange S) (tree : T) (path : Bor (List ℕ)) (order : PutOrder)
    → IsUnputSources Files Fails Hosts range tree path order (fault.Image NoMemory)
for_memory Files Fails Hosts range tree path order =
    record { read = range; seen = tree; narrows = λ image h. h; held = λ host h. h; why = inl (NoMemory, refl, inr (inl refl)) }
