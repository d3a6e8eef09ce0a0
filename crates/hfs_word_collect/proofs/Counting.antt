-- Files and volumes that are counted one after the other.
use Rattle.std.proofs.Common.{◌≡◌, ◌∙◌, ℕ, ◌+◌, ◌<◌, ◌≤◌, Bool, ◌&&◌, List, [], ◌∷◌, length, drop, get_or, slice_index_or, Option, Some, None, refl, ap, sym, arith}
use Rattle.std.proofs.lemmas.List.{drop_all, drop_more}
use Rattle.hfs_source.specs.declared.ranges.FoundRange.{FoundRange}
use Rattle.hfs_check.specs.VolumeOf.{volume_of}
use Rattle.hfs_items.specs.ToldRows.{ToldRow, told_rows}
use Rattle.hfs_model.specs.Children.{entries_of}
use Rattle.hfs_model.specs.declared.reply.Info.{Info}
use Rattle.hfs_remains_forks.specs.declared.shares.FileShares.{FileShares}
use Rattle.hfs_remains.specs.declared.catalog.FoundRecord.{FoundRecord}
use Rattle.hfs_rescue_items.specs.Found.{told}
use Rattle.hfs_space.specs.declared.fork_kind.ForkKind.{ForkKind}
use Rattle.hfs_space.specs.declared.fork_kind.ForkKind.TheVariants.{Data, Resource}
use Rattle.hfs_remains_forks.specs.Images.{FoundImage}
use Rattle.hfs_word_collect.specs.declared.counts.FileCounts.{FileCounts}
use Rattle.hfs_word_collect.specs.declared.counts.ImageCounts.{ImageCounts}
use Rattle.hfs_word_collect.specs.declared.remains.ForkTold.{ForkTold}
use Rattle.hfs_word_collect.specs.Counts.{both_files, both_volumes, file_number, file_total, is_fork_whole, item_files, no_files, no_volumes, range_counts, remains_files, remains_files_from, volume_counts_from}
use Rattle.hfs_word_collect.specs.Remains.{told_fork}

-- ---- the files of a sound volume

-- with a row more
pub files_more : (before after : ℕ) (row : ToldRow) (rows left : List ToldRow) → rows ≡ row ∷ left → after ≡ before + file_number row.info.kind → after + file_total left ≡ before + file_total rows
files_more before after row rows left first more =
    let all : file_total rows ≡ file_number row.info.kind + file_total left = ap file_total first in
    omega (arith, all, more)

-- with none more
pub files_none : (files : ℕ) (rows left : List ToldRow) → rows ≡ [] → left ≡ [] → files + file_total left ≡ files + file_total rows
files_none files rows left none none_left = ap (λ (rs : List ToldRow). files + file_total rs) (none_left ∙ sym none)

-- those of the table of an image
pub files_of : (bytes : List ℕ) (files : ℕ) (left : List ToldRow) → files ≡ file_total left → left ≡ told_rows (entries_of (volume_of bytes))
    → files ≡ file_total (told_rows (entries_of (volume_of bytes)))
files_of bytes files left is rows = is ∙ ap file_total rows

-- with all of them
pub files_all : (files total : ℕ) (left : List ToldRow) → files + file_total left ≡ total → left ≡ [] → files ≡ total
files_all files total left so none =
    let all : file_total left ≡ 0 = ap file_total none in
    omega (arith, all, so)

-- ---- what remains

sum-files : (a b c : FileCounts) → both_files (both_files a b) c ≡ both_files a (both_files b c)
sum-files a b c =
    let files : a.files + b.files + c.files ≡ a.files + (b.files + c.files) = omega arith in
    let damaged : a.damaged + b.damaged + c.damaged ≡ a.damaged + (b.damaged + c.damaged) = omega arith in
    λ i. record { files = files i; damaged = damaged i }

none-before : (a : FileCounts) → both_files no_files a ≡ a
none-before a =
    let files : 0 + a.files ≡ a.files = omega arith in
    let damaged : 0 + a.damaged ≡ a.damaged = omega arith in
    λ i. record { files = files i; damaged = damaged i }

none-behind : (a : FileCounts) → both_files a no_files ≡ a
none-behind a =
    let files : a.files + 0 ≡ a.files = omega arith in
    let damaged : a.damaged + 0 ≡ a.damaged = omega arith in
    λ i. record { files = files i; damaged = damaged i }

told-whole : (taken : Bool) (f : FoundImage) (kind : ForkKind) (o : Option FileShares) → (told_fork taken f kind o).is_whole ≡ is_fork_whole f kind o
told-whole taken f kind None = refl
told-whole taken f kind (Some file) = refl

-- an item by what its row tells of its forks
pub item_counted : (taken : Bool) (f : FoundImage) (i : ℕ) (info : Info) (d r : ForkTold) (whole : Bool) (counts : FileCounts) → d ≡ told_fork taken f Data (slice_index_or f.shares i None)
    → r ≡ told_fork taken f Resource (slice_index_or f.shares i None) → whole ≡ (d.is_whole && r.is_whole) → counts ≡ item_files info.kind whole → counts ≡ remains_files f i (Some info)
item_counted taken f i info d r whole counts d_is r_is whole_is is =
    let o : Option FileShares = slice_index_or f.shares i None in
    let first : d.is_whole ≡ is_fork_whole f Data o = ap (λ (told : ForkTold). told.is_whole) d_is ∙ told-whole taken f Data o in
    let second : r.is_whole ≡ is_fork_whole f Resource o = ap (λ (told : ForkTold). told.is_whole) r_is ∙ told-whole taken f Resource o in
    is ∙ ap (item_files info.kind) (whole_is ∙ (λ k. first k && second k))

-- none, where its record tells nothing
pub none_counted : (f : FoundImage) (i : ℕ) (o : Option Info) (counts : FileCounts) → o ≡ None → counts ≡ no_files → counts ≡ remains_files f i o
none_counted f i o counts none is = is ∙ ap (remains_files f i) (sym none)

pub row_counted : (f : FoundImage) (i : ℕ) (o : Option Info) (info : Info) (counts : FileCounts) → o ≡ Some info → counts ≡ remains_files f i (Some info) → counts ≡ remains_files f i o
row_counted f i o info counts some is = is ∙ ap (remains_files f i) (sym some)

module _ (f : FoundImage) (items : List FoundRecord) where
  -- those so far, and those of the items that are still to come, are all
  abbrev pub FilesLeft : ℕ → FileCounts → Type 0
  FilesLeft i counts = both_files counts (remains_files_from f i (drop i items)) ≡ remains_files_from f 0 items

  pub counts_first : FilesLeft 0 no_files
  counts_first = none-before (remains_files_from f 0 items)

  pub counts_next : (i : ℕ) (item : FoundRecord) (counts more sum : FileCounts) → i < length items → item ≡ get_or items i item → FilesLeft i counts → more ≡ remains_files f i (told item)
      → sum ≡ both_files counts more → FilesLeft (i + 1) sum
  counts_next i item counts more sum within item_is so is added =
      let rest = remains_files_from f (i + 1) (drop (i + 1) items) in
      ap (λ (s : FileCounts). both_files s rest) added ∙ sum-files counts more rest ∙ ap (λ (m : FileCounts). both_files counts (both_files m rest)) is
      ∙ ap (λ (xs : List FoundRecord). both_files counts (remains_files_from f i xs)) (ap (λ (first : FoundRecord). first ∷ drop (i + 1) items) item_is ∙ sym (drop_more items i item within)) ∙ so

  pub counts_last : (i : ℕ) (counts : FileCounts) → length items ≤ i → FilesLeft i counts → counts ≡ remains_files_from f 0 items
  counts_last i counts end so = sym (none-behind counts) ∙ ap (λ (xs : List FoundRecord). both_files counts (remains_files_from f i xs)) (sym (drop_all i items end)) ∙ so

-- ---- volumes

sum-volumes : (a b c : ImageCounts) → both_volumes (both_volumes a b) c ≡ both_volumes a (both_volumes b c)
sum-volumes a b c =
    let volumes : a.volumes + b.volumes + c.volumes ≡ a.volumes + (b.volumes + c.volumes) = omega arith in
    let refused : a.refused + b.refused + c.refused ≡ a.refused + (b.refused + c.refused) = omega arith in
    let files : a.files + b.files + c.files ≡ a.files + (b.files + c.files) = omega arith in
    let damaged : a.damaged + b.damaged + c.damaged ≡ a.damaged + (b.damaged + c.damaged) = omega arith in
    let wrong : a.wrong_sums + b.wrong_sums + c.wrong_sums ≡ a.wrong_sums + (b.wrong_sums + c.wrong_sums) = omega arith in
    λ i. record { volumes = volumes i; refused = refused i; files = files i; damaged = damaged i; wrong_sums = wrong i }

no-volume-before : (a : ImageCounts) → both_volumes no_volumes a ≡ a
no-volume-before a =
    let volumes : 0 + a.volumes ≡ a.volumes = omega arith in
    let refused : 0 + a.refused ≡ a.refused = omega arith in
    let files : 0 + a.files ≡ a.files = omega arith in
    let damaged : 0 + a.damaged ≡ a.damaged = omega arith in
    let wrong : 0 + a.wrong_sums ≡ a.wrong_sums = omega arith in
    λ i. record { volumes = volumes i; refused = refused i; files = files i; damaged = damaged i; wrong_sums = wrong i }

no-volume-behind : (a : ImageCounts) → both_volumes a no_volumes ≡ a
no-volume-behind a =
    let volumes : a.volumes + 0 ≡ a.volumes = omega arith in
    let refused : a.refused + 0 ≡ a.refused = omega arith in
    let files : a.files + 0 ≡ a.files = omega arith in
    let damaged : a.damaged + 0 ≡ a.damaged = omega arith in
    let wrong : a.wrong_sums + 0 ≡ a.wrong_sums = omega arith in
    λ i. record { volumes = volumes i; refused = refused i; files = files i; damaged = damaged i; wrong_sums = wrong i }

module _ (file : List ℕ) (ranges : List FoundRange) where
  -- those so far, and those of the ranges that are still to come, are all
  abbrev pub VolumesToCount : ℕ → ImageCounts → Type 0
  VolumesToCount i counts = both_volumes counts (volume_counts_from (drop i ranges) file) ≡ volume_counts_from ranges file

  pub volumes_counted_first : VolumesToCount 0 no_volumes
  volumes_counted_first = no-volume-before (volume_counts_from ranges file)

  pub volumes_counted_next : (i : ℕ) (d : FoundRange) (counts more sum : ImageCounts) → i < length ranges → VolumesToCount i counts
      → more ≡ range_counts (get_or ranges i d) file → sum ≡ both_volumes counts more → VolumesToCount (i + 1) sum
  volumes_counted_next i d counts more sum within so is added =
      let rest = volume_counts_from (drop (i + 1) ranges) file in
      ap (λ (s : ImageCounts). both_volumes s rest) added ∙ sum-volumes counts more rest ∙ ap (λ (m : ImageCounts). both_volumes counts (both_volumes m rest)) is
      ∙ ap (λ (xs : List FoundRange). both_volumes counts (volume_counts_from xs file)) (sym (drop_more ranges i d within)) ∙ so

  pub volumes_counted_last : (i : ℕ) (counts : ImageCounts) → length ranges ≤ i → VolumesToCount i counts → counts ≡ volume_counts_from ranges file
  volumes_counted_last i counts end so =
      sym (no-volume-behind counts) ∙ ap (λ (xs : List FoundRange). both_volumes counts (volume_counts_from xs file)) (sym (drop_all i ranges end)) ∙ so
