-- What comes is put on a new volume, or its catalog is full, by what was laid on a copy.
use Rattle.std.proofs.Common.{◌≡◌, ◌≤◌, ◌/◌, ℕ, List, length, Option, Some, None, IfSome, MatchOption, Result, Ok, Err, sym, ap, subst, inl, inr}
use Rattle.std.specs.Result.{IsErrAnd, IfErr, MatchResult}
use Rattle.hfs_blocks.specs.Blocks.{block_at, block_count}
use Rattle.hfs_blocks.specs.Layers.{changes, AreWithin}
use Rattle.hfs_check.specs.VolumeOf.{volume_of}
use Rattle.hfs_put_sources.specs.Items.{PlannedItem}
use Rattle.hfs_copy.specs.Working.{IsWorkingCopy}
use Rattle.hfs_word_make.specs.declared.order.MakeOrder.{MakeOrder}
use Rattle.hfs_word_make.specs.Filled.{IsFullIn, IsFullOn, IsLaidOn, IsPutIn, IsUnputIn}
use Rattle.hfs_word_make.specs.Orders.{put_order}
use Rattle.hfs_word_put.specs.Laid.{IsUnlaid, wants_of}
use Rattle.hfs_word_put.specs.Placed.{IsPlaced, TellsAny, refusal}
use Rattle.hfs_word_put.specs.declared.fault.PutFault.{PutFault}
use Rattle.hfs_word_put.specs.declared.order.PutOrder.{PutOrder}
use Rattle.hfs_word_put.specs.declared.placing.PlacedList.{PlacedList}
use Rattle.hfs_word_put.specs.declared.putting.PutList.{PutList}

module _ (order : MakeOrder) (items : List PlannedItem) (image copy : List ℕ) (copied : IsWorkingCopy copy image) where
  module _ (list : PlacedList) (placed : IsPlaced (volume_of copy) (put_order order) items list) where
    pub filled-in : (current : List ℕ) (put : Option PutList) → MatchOption put (IsFullOn list order.now (volume_of copy)) (IsLaidOn list order.now copy current)
        → MatchOption put (IsFullIn order items image) (IsPutIn order items image)
    filled-in current None full = record { copy = copy; copied = copied; list = list; placed = placed; full = full }
    filled-in current (Some put) laid = record {
      copy = copy;
      copied = copied;
      current = current;
      done = record { list = list; placed = placed; over = laid.over; directory = laid.directory; sums_are = laid.sums_are };
    }

    pub unlaid-in : (left : List ℕ) (told : PutFault) → IsUnlaid list order.now items (wants_of (block_at copy) list.places.items) (volume_of copy) left told
        → IsUnputIn order items image told
    unlaid-in left told unlaid =
        record { copy = copy; copied = copied; why = inr (record { list = list; placed = placed; image = left; unlaid = unlaid }) }

  pub unplaced-in : (told : PutFault) → TellsAny (refusal (volume_of copy) (put_order order) items) told → IsUnputIn order items image told
  unplaced-in told why = record { copy = copy; copied = copied; why = inl why }

  pub within-in : (put : Option PutList) → IfSome put (λ put. AreWithin (changes put.blocks.patch) (block_count copy))
      → IfSome put (λ put. AreWithin (changes put.blocks.patch) (length image / 512))
  within-in put within =
      subst (λ (total : ℕ). IfSome put (λ put. AreWithin (changes put.blocks.patch) total)) (ap (λ (n : ℕ). n / 512) (sym copied.len)) within

-- what was placed on the volume as it was mounted was placed on the copy
pub placed-on : {base current : List ℕ} {order put : PutOrder} {items : List PlannedItem} {list : PlacedList} → current ≡ base → put ≡ order
    → IsPlaced (volume_of current) put items list → IsPlaced (volume_of base) order items list
placed-on {base = base} {put = put} {items = items} {list = list} fresh is placed =
    subst (λ (order : PutOrder). IsPlaced (volume_of base) order items list) is
    (subst (λ (image : List ℕ). IsPlaced (volume_of image) put items list) fresh placed)

pub refused-on : (base current : List ℕ) (order put : PutOrder) (items : List PlannedItem) (told : PutFault) → current ≡ base → put ≡ order
    → TellsAny (refusal (volume_of current) put items) told → TellsAny (refusal (volume_of base) order items) told
refused-on base current order put items told fresh is lines =
    subst (λ (order : PutOrder). TellsAny (refusal (volume_of base) order items) told) is
    (subst (λ (image : List ℕ). TellsAny (refusal (volume_of image) put items) told) fresh lines)

-- ---- a fault that is passed on

pub passed-on : {A : Type 0} (result : Result A PutFault) (told : PutFault) (P : PutFault → Type 0) → IsErrAnd result (λ found. found ≡ told) → P told
    → IfErr result P
passed-on (Ok x) told P is p = tt
passed-on (Err found) told P is p = subst P (sym is) p

pub passed-match : {A : Type 0} (result : Result A PutFault) (told : PutFault) (Q : A → Type 0) (P : PutFault → Type 0)
    → IsErrAnd result (λ found. found ≡ told) → P told → MatchResult result Q P
passed-match (Ok x) told Q P is p = absurd is
passed-match (Err found) told Q P is p = subst P (sym is) p

-- ---- sizes

-- an image has at most 2 GB that has a sound copy
pub small-in : (image copy : List ℕ) → IsWorkingCopy copy image → length image ≤ 2147483648
small-in image copy copied = subst (λ (n : ℕ). n ≤ 2147483648) (sym copied.len) copied.sound.len.most
