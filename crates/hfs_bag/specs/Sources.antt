-- What a bag is filled from.
use Rattle.std.specs.Prelude.{◌≡◌, ℕ, ◌<◌, ⊤, Bool, true, false, List, [], ◌∷◌, ◌++◌, Option, Some, None, unwrap_or}
use Rattle.hfs_bag.specs.declared.item.BagHead.{BagHead}
use Rattle.hfs_bag.specs.declared.source.Stream.{Stream}
use Rattle.hfs_bag.specs.declared.source.Stream.TheVariants as stream
use Rattle.hfs_bag.specs.Items.{BagItem, IsHead}

-- the texts of the table of all items and of that of what remains of them, where there is one
pub record BagTables : Type 0 where
  pub items : List ℕ
  pub remains : Option (List ℕ)

abbrev pub told_or_not : Option (List ℕ) → Bool
told_or_not (Some text) = true
told_or_not None = false

abbrev pub has_remains : BagTables → Bool
has_remains tables = told_or_not tables.remains

-- what there is of an image: all items in their order, those still to come, the item that came last, the bytes of a stream that are still to be read, and the tables
pub record SourceState : Type 0 where
  pub all : List BagItem
  pub left : List BagItem
  pub item : BagItem
  pub bytes : List ℕ
  pub tables : BagTables

abbrev pub stream_bytes : SourceState → Stream → List ℕ
stream_bytes state stream.DataFork = state.item.data_fork
stream_bytes state stream.ResourceFork = state.item.resource_fork
stream_bytes state stream.Table = state.tables.items
stream_bytes state stream.Remains = unwrap_or state.tables.remains []

-- all is as it was but for the bytes that are read
pub record SameItems (old new : SourceState) : Type 0 where
  pub all : new.all ≡ old.all
  pub left : new.left ≡ old.left
  pub item : new.item ≡ old.item
  pub tables : new.tables ≡ old.tables

-- a stream's bytes are still to be read
pub record HasOpened (stream : Stream) (old new : SourceState) : Type 0 where
  pub same : SameItems old new
  pub bytes : new.bytes ≡ stream_bytes old stream

-- the next bytes were read, and none only where none are left
pub record HasRead (piece : List ℕ) (old new : SourceState) : Type 0 where
  pub same : SameItems old new
  pub bytes : old.bytes ≡ piece ++ new.bytes
  pub none : piece ≡ [] → new.bytes ≡ []

-- the next item came, of which this is told; or there was none
pub record HasItem (head : BagHead) (old new : SourceState) : Type 0 where
  pub all : new.all ≡ old.all
  pub tables : new.tables ≡ old.tables
  pub left : old.left ≡ new.item ∷ new.left
  pub told : IsHead head new.item

pub record HasNoItem (old new : SourceState) : Type 0 where
  pub all : new.all ≡ old.all
  pub tables : new.tables ≡ old.tables
  pub none : old.left ≡ []
  pub none_left : new.left ≡ []

abbrev pub TakesItem : SourceState → SourceState → Option BagHead → Type 0
TakesItem old new (Some head) = HasItem head old new
TakesItem old new None = HasNoItem old new

-- fewer are to come where one came
abbrev pub IsFewer : ℕ → ℕ → Option BagHead → Type 0
IsFewer old new (Some head) = new < old
IsFewer old new None = ⊤

-- all items are still to come
pub record HasRestarted (old new : SourceState) : Type 0 where
  pub all : new.all ≡ old.all
  pub left : new.left ≡ old.all
  pub tables : new.tables ≡ old.tables

-- the items and the tables are the same; others may be to come
pub record KeepsItems (old new : SourceState) : Type 0 where
  pub all : new.all ≡ old.all
  pub tables : new.tables ≡ old.tables
