-- What the calls of a source make of its state.
use Rattle.std.proofs.Common.{◌≡◌, ℕ, List, ◌∷◌, length, map, drop, Some, None, refl, sym, ap, subst, ◌∙◌, arith}
use Rattle.std.specs.Prelude.{string_bytes}
use Rattle.hfs_bag.specs.declared.item.BagHead.{BagHead}
use Rattle.hfs_bag.specs.declared.source.Stream.{Stream}
use Rattle.hfs_bag.specs.declared.source.Stream.TheVariants as stream
use Rattle.hfs_bag.specs.Items.{IsHead}
use Rattle.hfs_bag.specs.Sources.{HasItem, HasNoItem, HasOpened, HasRead, HasRestarted, IsFewer, stream_bytes}
use Rattle.hfs_items.specs.Levels.{GivesRow, Going}
use Rattle.hfs_items.specs.ToldRows.{ToldRow, told_rows}
use Rattle.hfs_model.specs.declared.reply.Info.{Info}
use Rattle.hfs_texts.specs.HostNames.{host_name}
use Rattle.hfs_word_take.specs.declared.items.CameItem.{CameItem}
use Rattle.hfs_word_take.specs.declared.reading.Reading.{Reading}
use Rattle.hfs_word_take.specs.Items.{bag_item, entries_in, folders_text, item_at, names_between}
use Rattle.hfs_bag.specs.Forks.{ReadsOn}
use Rattle.hfs_word_take.specs.Reading.{reading_rest}
use Rattle.hfs_word_take.specs.Sources.{source_of, stream_told}

pub has_read : (image : List ℕ) (left : List ToldRow) (came : CameItem) (reading reading' : Reading) (piece : List ℕ)
    → ReadsOn piece (reading_rest image reading) (reading_rest image reading')
    → HasRead piece (source_of left came reading image) (source_of left came reading' image)
has_read image left came reading reading' piece reads = record {
  same = record { all = refl; left = refl; item = refl; tables = refl };
  bytes = reads.bytes;
  none = reads.none;
}

stream-is : (image : List ℕ) (left : List ToldRow) (came : CameItem) (reading : Reading) (s : Stream)
    → stream_told came.info s image ≡ stream_bytes (source_of left came reading image) s
stream-is image left came reading stream.DataFork = refl
stream-is image left came reading stream.ResourceFork = refl
stream-is image left came reading stream.Table = refl
stream-is image left came reading stream.Remains = refl

pub has_opened : (image : List ℕ) (left : List ToldRow) (came : CameItem) (reading reading' : Reading) (s : Stream)
    → reading_rest image reading' ≡ stream_told came.info s image
    → HasOpened s (source_of left came reading image) (source_of left came reading' image)
has_opened image left came reading reading' s told = record {
  same = record { all = refl; left = refl; item = refl; tables = refl };
  bytes = told ∙ stream-is image left came reading s;
}

pub has_restarted : (image : List ℕ) (left left' : List ToldRow) (came : CameItem) (reading : Reading)
    → left' ≡ drop 1 (told_rows (entries_in image))
    → HasRestarted (source_of left came reading image) (source_of left' came reading image)
has_restarted image left left' came reading rows = record {
  all = refl;
  left = ap (map (bag_item (entries_in image))) rows;
  tables = refl;
}

pub has_item : (image : List ℕ) (old new : Going) (came came' : CameItem) (reading : Reading) (head : BagHead) (info : Info) → GivesRow old new (Some info)
    → string_bytes came'.above ≡ folders_text (names_between new.path) → string_bytes came'.name ≡ host_name info.name → came'.info ≡ info
    → ((above name : List ℕ) → IsHead head (item_at (entries_in image) above name info))
    → HasItem head (source_of old.left came reading image) (source_of new.left came' reading image)
has_item image old new came came' reading head info gives above name info_is heads =
    let es = entries_in image in
    record {
      all = refl;
      tables = refl;
      left = ap (map (bag_item es)) gives ∙ (λ i. item_at es (sym above i) (sym name i) (sym info_is i) ∷ map (bag_item es) new.left);
      told =
          subst (λ (x : Info). IsHead head (item_at es (string_bytes came'.above) (string_bytes came'.name) x)) (sym info_is)
          (heads (string_bytes came'.above) (string_bytes came'.name));
    }

pub has_no_item : (image : List ℕ) (old new : Going) (came : CameItem) (reading : Reading) → GivesRow old new None
    → HasNoItem (source_of old.left came reading image) (source_of new.left came reading image)
has_no_item image old new came reading gives = record {
  all = refl;
  tables = refl;
  none = ap (map (bag_item (entries_in image))) gives.0;
  none_left = ap (map (bag_item (entries_in image))) gives.1;
}

-- a row more came, so that fewer are to come
pub row_fewer : (old new : Going) (info : Info) (head : BagHead) → GivesRow old new (Some info) → IsFewer (length old.left) (length new.left) (Some head)
row_fewer old new info head gives = let n = ap length gives in omega (arith, n)
