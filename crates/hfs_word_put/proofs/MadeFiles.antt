-- What a file is to hold, by its parts.
use Rattle.std.proofs.Common.{◌≡◌, ◌∙◌, ℕ, ◌/◌, List, [], Option, None, Vec, Global, length, drop, refl, sym, subst, ap, arith, length-take, length-drop}
use Rattle.hfs_blocks.specs.Blocks.{block_at}
use Rattle.hfs_blocks.specs.Layers.{changes, AreWithin}
use Rattle.hfs_check.specs.Parts.{mdb_in}
use Rattle.hfs_source.specs.Ranges.{bytes_in}
use Rattle.hfs_fields.specs.declared.mdb.Mdb.{Mdb}
use Rattle.hfs_put.specs.Files.{IsReadOf, ReadTree}
use Rattle.hfs_volume.specs.InFile.{LiesIn}
use Rattle.hfs_volume.specs.declared.in_file.ImagePlace.{ImagePlace}
use Rattle.hfs_put.specs.PutFiles.{IsImageOf, IsPutList, IsSumBefore}
use Rattle.hfs_put.proofs.WholeFiles.{put_files_have_directory, put_files_hold_put}
use Rattle.hfs_put.specs.declared.putting.PutBlocks.{PutBlocks}
use Rattle.hfs_source.specs.Images.{IsRangeOf}
use Rattle.hfs_put_sources.specs.Items.{PlannedItem}
use Rattle.hfs_put_sources.specs.Trees.{Tree}
use Rattle.hfs_word_put.specs.declared.lines.PutSums.{PutSums}
use Rattle.hfs_word_put.specs.declared.placing.PlacedList.{PlacedList}
use Rattle.hfs_word_put.specs.declared.order.PutOrder.{PutOrder}
use Rattle.hfs_word_put.specs.declared.putting.PutImage.{PutImage}
use Rattle.hfs_word_put.specs.Files.{IsPutFile, IsPutInFile, place_of}
use Rattle.hfs_word_put.specs.Put.{IsPutFrom, IsPutOf}

-- what was put stays so of fewer trees
narrowed : (Hosts Then : Tree → Type 0) (order : PutOrder) (copy : List ℕ) (items : List PlannedItem) (put : PutBlocks) (sums : PutSums)
    → ((host : Tree) → Then host → Hosts host) → IsPutOf Hosts order copy items put sums → IsPutOf Then order copy items put sums
narrowed Hosts Then order copy items put sums fewer is = record {
  digests = is.digests;
  listed = λ host h. is.listed host (fewer host h);
  verified = λ host h. is.verified host (fewer host h);
  current = is.current;
  done = is.done;
}

from-narrowed : (Range : List ℕ → Type 0) (Hosts Then : Tree → Type 0) (order : PutOrder) (len : ℕ) (items : List PlannedItem) (put : PutBlocks) (sums : PutSums)
    → ((host : Tree) → Then host → Hosts host) → IsPutFrom Range Hosts order len items put sums → IsPutFrom Range Then order len items put sums
from-narrowed Range Hosts Then order len items put sums fewer is =
    record { copy = is.copy; copied = is.copied; done = narrowed Hosts Then order is.copy items put sums fewer is.done }

-- a tree of which no file is open
pub unopened : {T F : Type 0} (Hosts : T → Tree → Type 0) (Bytes : F → List ℕ → Type 0) (files : ReadTree T F) (tree : T) → files ≡ record { tree = tree; path = []; file = None }
    → (host : Tree) → IsReadOf Hosts Bytes files host → Hosts tree host
unopened Hosts Bytes files tree e host h =
    let opened = subst (λ (read : ReadTree _ _). IsReadOf Hosts Bytes read host) e h in opened.1

-- what the file holds then
module _ (Files : List ℕ → Type 0) (Hosts : Tree → Type 0) (order : PutOrder) (place : ImagePlace) (items : List PlannedItem) (put : PutBlocks) (sums : PutSums)
    (from : IsPutFrom (IsRangeOf Files place.range.start place.range.len) Hosts order place.range.len items put sums)
    (within : AreWithin (changes put.patch) (place.range.len / 512)) where
  abbrev list : PlacedList
  list = from.done.done.list

  abbrev is-list : IsPutList from.copy list.target order.now items list.places.items put.patch put.runs.items put.ids.items
  is-list = record { replace = order.replace; placed = from.done.done.placed.places; current = from.done.current; over = from.done.done.over }

  is-image : (file : List ℕ) → Files file → LiesIn place.range file → IsSumBefore place.sum_at place.range.start → IsImageOf from.copy place file
  is-image file of lies before =
      let own : List ℕ = bytes_in place.range file in
      let long : length own ≡ place.range.len = omega (arith, lies, length-take place.range.len (drop place.range.start file), length-drop place.range.start file) in
      record {
        inside = lies;
        sum_before = before;
        copied = from.copied.same own (file, of, record { inside = lies; bytes = refl }) long;
      }

  in-file : IsPutInFile Files Hosts order place items put sums
  in-file = record {
    from = from;
    holds = λ file host of lies before.
        put_files_hold_put from.copy list.target order.now items list.places.items put.patch put.runs.items put.ids.items place file host is-list within
        (is-image file of lies before);
    free = λ file host of lies before.
        ap (λ (mdb : Mdb). mdb.free_blocks)
        (put_files_have_directory from.copy list.target order.now items list.places.items put.patch put.runs.items put.ids.items place file host
        (mdb_in (block_at from.done.current)) is-list within (is-image file of lies before) from.done.done.directory)
        ∙ sym (ap (λ (told : PutSums). told.free) from.done.done.sums_are);
  }

pub put-file : {S T F W : Type 0} (Files : S → List ℕ → Type 0) (Hosts : T → Tree → Type 0) (Bytes : F → List ℕ → Type 0) (order : PutOrder) (len : ℕ) (sum_at : Option ℕ)
    (made : PutImage S (ReadTree T F) W) (bytes : S) (start : ℕ) (files : ReadTree T F) (tree : T) (items : Vec PlannedItem Global) (put : PutBlocks) (sums : PutSums)
    → files ≡ record { tree = tree; path = []; file = None } → made.contents.file.forks.bytes ≡ bytes → made.contents.file.forks.files ≡ files
    → made.contents.file.forks.items ≡ items → made.contents.file.forks.runs ≡ put.runs → made.contents.file.forks.start ≡ start → made.contents.patch ≡ put.patch
    → made.contents.place ≡ place_of start len sum_at → made.sums ≡ sums → AreWithin (changes put.patch) (len / 512)
    → IsPutFrom (IsRangeOf (Files bytes) start len) (Hosts tree) order len items.items put sums → IsPutFile Files (IsReadOf Hosts Bytes) order len sum_at made
put-file {S = S} {T = T} {F = F} Files Hosts Bytes order len sum_at made bytes start files tree items put sums fresh e-bytes e-files e-items e-runs e-start e-patch e-place e-sums within is = record {
  put = put;
  is = subst (λ (t : S × ℕ × ReadTree T F × Vec PlannedItem Global × PutSums). IsPutInFile (Files t.0) (IsReadOf Hosts Bytes t.2) order (place_of t.1 len sum_at) t.3.items put t.4)
      (λ i. (sym e-bytes i, sym e-start i, sym e-files i, sym e-items i, sym e-sums i))
      (in-file (Files bytes) (IsReadOf Hosts Bytes files) order (place_of start len sum_at) items.items put sums
      (from-narrowed (IsRangeOf (Files bytes) start len) (Hosts tree) (IsReadOf Hosts Bytes files) order len items.items put sums (unopened Hosts Bytes files tree fresh) is) within);
  patch = e-patch;
  runs = e-runs;
  place = e-place ∙ ap (λ (n : ℕ). place_of n len sum_at) (sym e-start);
}

-- where the range is as long as it was
pub at-length : {S : Type 0} (Files : S → List ℕ → Type 0) (Hosts : Tree → Type 0) (bytes : S) (start read len : ℕ) (order : PutOrder) (items : List PlannedItem) (put : PutBlocks) (sums : PutSums)
    → read ≡ len → IsPutFrom (IsRangeOf (Files bytes) start read) Hosts order len items put sums → IsPutFrom (IsRangeOf (Files bytes) start len) Hosts order len items put sums
at-length Files Hosts bytes start read len order items put sums e is =
    subst (λ (n : ℕ). IsPutFrom (IsRangeOf (Files bytes) start n) Hosts order len items put sums) e is
