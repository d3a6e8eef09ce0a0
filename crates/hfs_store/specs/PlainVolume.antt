-- The volume that a `PlainVolume` represents.
use Rattle.std.specs.Prelude.{◌≡◌, ℕ, ◌+◌, ◌≤◌, List, [], ◌∷◌, length, slice_index_or, take, Bool, false, ◌++◌, drop, Result, IfOk}
use Rattle.std.specs.FinMap as map
use Rattle.hfs_store.specs.declared.plain_volume.PlainVolume.TheInside.{Inside}
use Rattle.hfs_model.specs.Volume.{Volume, Entry, Items}
use Rattle.hfs_model.specs.Children.{entries_of, valence}
use Rattle.hfs_model.specs.Changes.{Outcome, touched, with_lock}
use Rattle.hfs_model.specs.Runs.{run}
use Rattle.hfs_model.specs.declared.call.Call.{Call}
use Rattle.hfs_model.specs.declared.item.Item.{Item}
use Rattle.hfs_model.specs.declared.reply.Reply.{Reply}
use Rattle.hfs_store.specs.Found.{IsPlaceOf}

-- the IDs strictly rise, and are at least low and below high
abbrev pub Rises : ℕ → ℕ → List Entry → Type 0
Rises low high [] = low ≤ high
Rises low high (e ∷ es) = (low ≤ e.0) × Rises (e.0 + 1) high es

-- IDs rise and are below the next one, and no folder has more than 65,535 children
pub record AreEntries (es : List Entry) (next : ℕ) : Type 0 where
  pub rise : Rises 0 next es
  pub room : (id : ℕ) → valence es id ≤ 65535

-- entries in order, and a change of the map that they are
pub record Becomes (old new : List Entry) (change : Items → Items) : Type 0 where
  pub kept : (next : ℕ) → AreEntries old next → AreEntries new next
  pub is : (next : ℕ) → AreEntries old next → map.from_sorted new ≡ change (map.from_sorted old)

-- entries in order, and a change of the map that they are, by the entry at a place
abbrev pub BecomesAt : List Entry → List Entry → ℕ → (Items → Entry → Items) → Type 0
BecomesAt old new at change = (d : Entry) → Becomes old new (λ m. change m (slice_index_or old at d))

-- and the item at a place is another
abbrev pub ItemBecomes : List Entry → List Entry → ℕ → (Item → Item) → Type 0
ItemBecomes old new at change = BecomesAt old new at (λ m e. map.insert m e.0 (change e.1))

-- the items without an entry, with its folder's modified date
abbrev pub removed : Items → Entry → ℕ → ℕ → Items
removed items e dir now = touched (map.remove items e.0) dir now

-- an item with these dates and Finder bytes
abbrev pub with_info : Item → ℕ → ℕ → ℕ → List ℕ → Item
with_info item created modified backup info = record item { created = created; modified = modified; backup = backup; finder = info }

-- and the item at a place has these dates and Finder bytes
abbrev pub InfoBecomes : List Entry → List Entry → ℕ → ℕ → ℕ → ℕ → List ℕ → Type 0
InfoBecomes old new at created modified backup info = ItemBecomes old new at (λ i. with_info i created modified backup info)

-- with these as the first half of its Finder bytes
abbrev pub with_first_info : List ℕ → Item → Item
with_first_info info item = record item { finder = info ++ drop 16 item.finder }

-- a file locked or unlocked; a folder as it is
abbrev pub with_item_lock : Bool → Item → Item
with_item_lock locked item = record item { kind = with_lock locked item.kind }

-- entries with one more at their end, whose folder is touched
abbrev pub Gains : List Entry → List Entry → ℕ → Item → ℕ → Type 0
Gains old new id item now = AreEntries old id → AreEntries new (id + 1)
    × (map.from_sorted new ≡ touched (map.insert (map.from_sorted old) id item) item.parent now)

-- the volume of these entries, with no lock set, and with allocation blocks of 512 bytes
abbrev pub unlocked_volume : List Entry → ℕ → ℕ → Volume
unlocked_volume es next changed = record {
  items = map.from_sorted es;
  next_id = next;
  changed = changed;
  hardware_locked = false;
  software_locked = false;
  block_size = 512;
}

-- a volume with an item under an ID that is the last one
abbrev pub with_last : Volume → ℕ → Item → Volume
with_last v id item = record v { items = map.insert v.items id item; next_id = id + 1 }

-- a volume with these locks
abbrev pub with_locks : Bool → Bool → Volume → Volume
with_locks hardware software v = record v { hardware_locked = hardware; software_locked = software }

-- a volume whose allocation blocks have so many bytes
abbrev pub with_block_size : ℕ → Volume → Volume
with_block_size size v = record v { block_size = size }

-- the folder with that ID has one child more
abbrev pub HasOneMore : Volume → Volume → ℕ → Type 0
HasOneMore old new dir = valence (entries_of new) dir ≡ valence (entries_of old) dir + 1

-- the place of the chosen item of a volume, or the same error
abbrev pub IsPlaceIn : {E : Type 0} → Volume → Result Entry E → Result ℕ E → Type 0
IsPlaceIn v chosen result = IsPlaceOf (entries_of v) chosen result

-- an answer that is no error is this
abbrev pub Gives : {A E : Type 0} → A → Result A E → Type 0
Gives x result = IfOk result (λ y. y ≡ x)

-- an answer that is no error is the reply of a call's outcome, and this is its volume
abbrev pub GivesOutcome : {E : Type 0} → Outcome → Volume → Result Reply E → Type 0
GivesOutcome outcome v result = IfOk result (λ reply. (v, reply) ≡ outcome)

-- a volume after some first ones of the calls
abbrev pub HasMadeSome : Volume → Volume → List Call → Type 0
HasMadeSome old new calls = (made : ℕ) × (made ≤ length calls) × (new ≡ (run old (take made calls)).0)

abbrev pub volume_of : Inside → Volume
volume_of a = record {
  items = map.from_sorted a.items.items;
  next_id = a.next_id;
  changed = a.changed;
  hardware_locked = a.hardware_locked;
  software_locked = a.software_locked;
  block_size = a.block_size;
}

abbrev pub IsPlainVolume : Inside → Type 0
IsPlainVolume a = AreEntries a.items.items a.next_id
