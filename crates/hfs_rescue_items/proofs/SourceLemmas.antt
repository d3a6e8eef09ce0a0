-- What the calls of a source make of its state.
use Rattle.std.proofs.Common.{◌≡◌, ◌≤◌, ◌<◌, ◌+◌, ◌-◌, ℕ, Bool, true, false, if◌then◌else◌, Some, None, List, [], ◌∷◌, ◌++◌, drop, length, map, slice_index_or, Option, refl, sym, ap, ◌∙◌, arith}
use Rattle.std.specs.Prelude.{string_bytes}
use Rattle.std.specs.Option.{option_map_or}
use Rattle.std.proofs.lemmas.List.{drop_all, drop_more}
use Rattle.hfs_bag.specs.declared.item.BagHead.{BagHead}
use Rattle.hfs_bag.specs.declared.source.Stream.{Stream}
use Rattle.hfs_bag.specs.declared.source.Stream.TheVariants as stream
use Rattle.hfs_bag.specs.Items.{IsHead}
use Rattle.hfs_bag.specs.Sources.{HasItem, HasNoItem, HasOpened, HasRead, HasRestarted, stream_bytes}
use Rattle.hfs_remains_forks.specs.declared.findings.FoundFork.{FoundFork}
use Rattle.hfs_remains_forks.specs.declared.shares.FileShares.{FileShares}
use Rattle.hfs_remains_forks.specs.ForkBytes.{fork_bytes}
use Rattle.hfs_remains_forks.specs.Verdicts.{fork_share, shares_at}
use Rattle.hfs_remains_forks.proofs.ForkByteLemmas.{length-share_bytes}
use Rattle.hfs_space.specs.declared.fork_kind.ForkKind.{ForkKind}
use Rattle.hfs_space.specs.declared.fork_kind.ForkKind.TheVariants.{Data, Resource}
use Rattle.hfs_table.specs.Lines.{bag_head}
use Rattle.hfs_rescue_items.specs.declared.came.Came.{Came}
use Rattle.hfs_rescue_items.specs.declared.found.Found.{Found}
use Rattle.hfs_rescue_items.specs.declared.plan.Planned.{Planned}
use Rattle.hfs_rescue_items.specs.declared.table_lines.Lines.{Lines}
use Rattle.hfs_rescue_items.specs.declared.reading.Reading.{Reading}
use Rattle.hfs_rescue_items.specs.Bytes.{HasBytes, bytes_by, taken_bytes}
use Rattle.hfs_rescue_items.specs.Lines.{item_line, lines_of, remains_line, remains_text, table_text}
use Rattle.hfs_bag.specs.Forks.{ReadsOn}
use Rattle.hfs_rescue_items.specs.Reading.{lines_rest, reading_rest}
use Rattle.hfs_rescue_items.specs.Sources.{above_of, came_item, finder_told, modified_told, is_alone, item_with, name_of, part_bytes, part_stream, part_told, planned_item, source_of}

-- ---- lengths

length-taken : (image other : List ℕ) (found : Found) (kind : ForkKind) (i : ℕ) → length (taken_bytes image found kind i) ≡ length (taken_bytes other found kind i)
unfolding taken_bytes
length-taken image other found kind i = by (shares_at found.salvage.now i)
  where
    by : (o : Option FileShares) → length (option_map_or (λ (file : FileShares). bytes_by image found.salvage.now.trees (fork_share kind file)) o [])
        ≡ length (option_map_or (λ (file : FileShares). bytes_by other found.salvage.now.trees (fork_share kind file)) o [])
    by None = refl
    by (Some file) =
        length-share_bytes image found.salvage.now.trees.total found.salvage.now.trees.overflow.now found.salvage.now.trees.mdb.now (fork_share kind file)
        ∙ sym (length-share_bytes other found.salvage.now.trees.total found.salvage.now.trees.overflow.now found.salvage.now.trees.mdb.now (fork_share kind file))

length-part : (image other : List ℕ) (found : Found) (kind : ForkKind) (planned : Planned) → length (part_bytes image found kind planned) ≡ length (part_bytes other found kind planned)
length-part image other found kind planned = by (is_alone planned.kind)
  where
    by : (b : Bool) → length (if b then [] else taken_bytes image found kind planned.place) ≡ length (if b then [] else taken_bytes other found kind planned.place)
    by true = refl
    by false = length-taken image other found kind planned.place

-- ---- streams that are begun

module _ (image : List ℕ) (found : Found) where
  -- a fork that was found and begun
  pub fork_begun : (bytes rest : List ℕ) (fork : FoundFork) → HasBytes image found bytes fork → rest ≡ fork_bytes image found.mdb.now fork.length fork.places.items
      → rest ≡ bytes
  fork_begun bytes rest fork has begun = begun ∙ has.bytes_are

  -- none was found, since there are no bytes
  pub none_begun : (bytes rest : List ℕ) → bytes ≡ [] → rest ≡ [] → rest ≡ bytes
  none_begun bytes rest none begun = begun ∙ sym none

module _ (found : Found) where
  -- a table that was begun
  pub table_begun : (lines : Lines) → lines.next ≡ 0 → lines.items.now ≡ found.items.now → bag_head ++ lines_rest (item_line found) lines ≡ table_text found
  table_begun lines next items = λ i. bag_head ++ lines_of (item_line found) (next i) (items i)

  pub remains_begun : (lines : Lines) → lines.next ≡ 0 → lines.items.now ≡ found.items.now → lines_rest (remains_line found) lines ≡ remains_text found
  remains_begun lines next items = λ i. lines_of (remains_line found) (next i) (items i)

module _ (image : List ℕ) (found : Found) (plan : List Planned) where
  pub has_restarted : (next : ℕ) (came : Came) (reading : Reading) → HasRestarted (source_of image found plan next came reading) (source_of image found plan 0 came reading)
  has_restarted next came reading = record { all = refl; left = refl; tables = refl }

  stream-is : (next : ℕ) (came : Came) (reading : Reading) (s : Stream)
      → part_stream image found came.planned s ≡ stream_bytes (source_of image found plan next came reading) s
  stream-is next came reading stream.DataFork = refl
  stream-is next came reading stream.ResourceFork = refl
  stream-is next came reading stream.Table = refl
  stream-is next came reading stream.Remains = refl

  pub has_opened : (next : ℕ) (came : Came) (reading reading' : Reading) (s : Stream)
      → reading_rest image found reading' ≡ part_stream image found came.planned s
      → HasOpened s (source_of image found plan next came reading) (source_of image found plan next came reading')
  has_opened next came reading reading' s opened = record {
    same = record { all = refl; left = refl; item = refl; tables = refl };
    bytes = opened ∙ stream-is next came reading s;
  }

  pub has_read : (next : ℕ) (came : Came) (reading reading' : Reading) (piece : List ℕ) → ReadsOn piece (reading_rest image found reading) (reading_rest image found reading')
      → HasRead piece (source_of image found plan next came reading) (source_of image found plan next came reading')
  has_read next came reading reading' piece reads = record {
    same = record { all = refl; left = refl; item = refl; tables = refl };
    bytes = reads.bytes;
    none = reads.none;
  }

  pub has_no_item : (next : ℕ) (came : Came) (reading : Reading) → length plan ≤ next
      → HasNoItem (source_of image found plan next came reading) (source_of image found plan next came reading)
  has_no_item next came reading end = record {
    all = refl;
    tables = refl;
    none = ap (map (planned_item image found)) (drop_all next plan end);
    none_left = ap (map (planned_item image found)) (drop_all next plan end);
  }

  -- how many bytes a fork has no image decides
  head-of : (head : BagHead) (came : Came) (planned : Planned) → came.planned ≡ planned → IsHead head (planned_item [] found planned) → IsHead head (came_item image found came)
  head-of head came planned same told = record {
    kind_is = told.kind_is ∙ ap (λ (p : Planned). p.kind) (sym same);
    finder_is = told.finder_is ∙ ap (λ (p : Planned). finder_told (part_told found p)) (sym same);
    modified_is = told.modified_is ∙ ap (λ (p : Planned). modified_told (part_told found p)) (sym same);
    data_is = told.data_is ∙ length-part [] image found Data planned ∙ ap (λ (p : Planned). length (part_bytes image found Data p)) (sym same);
    resource_is = told.resource_is ∙ length-part [] image found Resource planned ∙ ap (λ (p : Planned). length (part_bytes image found Resource p)) (sym same);
  }

  pub has_item : (next : ℕ) (came came' : Came) (reading : Reading) (head : BagHead) (planned : Planned) → next < length plan → planned ≡ slice_index_or plan next planned
      → string_bytes came'.above ≡ above_of found planned → string_bytes came'.name ≡ name_of found planned → came'.planned ≡ planned
      → IsHead head (planned_item [] found planned)
      → HasItem head (source_of image found plan next came reading) (source_of image found plan (next + 1) came' reading)
  has_item next came came' reading head planned within is above name planned_is told = record {
    all = refl;
    tables = refl;
    left = ap (map (planned_item image found)) (drop_more plan next planned within)
        ∙ ap (λ (p : Planned). planned_item image found p ∷ map (planned_item image found) (drop (next + 1) plan)) (sym is)
        ∙ (λ i. item_with image found (sym above i) (sym name i) (sym planned_is i) ∷ map (planned_item image found) (drop (next + 1) plan));
    told = head-of head came' planned planned_is told;
  }

-- the part that came is no more to come
pub plan_fewer : (plan : List Planned) (next : ℕ) → next < length plan → length plan - (next + 1) < length plan - next
plan_fewer plan next within = omega (arith, within)
