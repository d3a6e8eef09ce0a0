-- Why a bag was not filled.
use Rattle.std.specs.Prelude.{◌≡◌, ◌^◌, ◌≤◌, ◌⊎◌, ℕ, List}
use Rattle.hfs_source.specs.Images.{OfEach}
use Rattle.hfs_bag.specs.declared.shelf_fault.ShelfFault.{ShelfFault}
use Rattle.hfs_bag.specs.declared.fault.BagFault.{BagFault}
use Rattle.hfs_bag.specs.declared.fault.BagFault.TheVariants as bag
use Rattle.hfs_bag.specs.declared.source.SourceFault.{SourceFault}
use Rattle.hfs_bag.specs.declared.source.SourceFault.TheVariants as source
use Rattle.hfs_bag.specs.Sources.{SourceState}
use Rattle.hfs_bag.specs.Bags.{bytes_in, payload}

-- a fault that the source gave or want of memory, or one that the shelf gave; that a payload is too large only where this holds
abbrev pub IsBagFault : (SourceFault → Type 0) → (ShelfFault → Type 0) → Type 0 → BagFault → Type 0
IsBagFault SourceGave ShelfGave IsLarge (bag.Source fault) = SourceGave fault ⊎ (fault ≡ source.Memory)
IsBagFault SourceGave ShelfGave IsLarge (bag.Shelf fault) = ShelfGave fault
IsBagFault SourceGave ShelfGave IsLarge bag.TooLarge = IsLarge

-- a fault that the source gave; or it told fewer items than before, so that no image has all the bytes which were read
abbrev pub HasFailed : (SourceFault → Type 0) → (List ℕ → Type 0) → SourceFault → Type 0
HasFailed SourceGave Holds fault = SourceGave fault ⊎ ((fault ≡ source.ReadFailed) × OfEach Holds (λ image. ⊥))

-- the source's, the shelf's, or want of memory
abbrev pub IsPassedOn : (SourceFault → Type 0) → (ShelfFault → Type 0) → BagFault → Type 0
IsPassedOn SourceGave ShelfGave = IsBagFault SourceGave ShelfGave ⊥

-- the shelf's, or want of memory
abbrev pub IsOfShelf : (ShelfFault → Type 0) → BagFault → Type 0
IsOfShelf ShelfGave = IsBagFault (λ _. ⊥) ShelfGave ⊥

-- so many bytes can't be counted
abbrev pub AreTooMany : ℕ → Type 0
AreTooMany bytes = 2 ^ 64 ≤ bytes

-- the source's, the shelf's, want of memory, or the payload of a source's items is too large
abbrev pub IsPayloadFault : (SourceFault → Type 0) → (ShelfFault → Type 0) → (List ℕ → Type 0) → (List ℕ → SourceState) → BagFault → Type 0
IsPayloadFault SourceGave ShelfGave Holds state = IsBagFault SourceGave ShelfGave (OfEach Holds (λ image. AreTooMany (bytes_in (payload (state image).all))))

-- one of these, while the bag of its items is given
abbrev pub IsFillFault : (SourceFault → Type 0) → (ShelfFault → Type 0) → (List ℕ → Type 0) → (List ℕ → SourceState) → BagFault → Type 0
IsFillFault SourceGave ShelfGave Holds state = IsPayloadFault (HasFailed SourceGave Holds) ShelfGave Holds state
