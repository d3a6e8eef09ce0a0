-- Files in which a list was put on the volume of an image.
use Rattle.std.proofs.Common.{◌≡◌, ℕ, ◌+◌, ◌/◌, ◌<◌, ◌≤◌, List, [], ◌++◌, length, take, drop, Option, Some, None, refl, sym, ap, subst, ◌∙◌, arith}
use Rattle.std.proofs.lemmas.List.{append_assoc, length-append, length-drop, length-take, drop_at, take_at}
use Rattle.std.specs.Int.{w32, to_be_bytes}
use Rattle.hfs_blocks.specs.Blocks.{block_at, block_count}
use Rattle.hfs_blocks.specs.Layers.{Numbered, changes, AreWithin}
use Rattle.hfs_check.specs.Parts.{mdb_in}
use Rattle.hfs_check.specs.VolumeOf.{volume_of}
use Rattle.hfs_source.specs.Ranges.{bytes_in}
use Rattle.hfs_source.specs.Sums.{sum_of}
use Rattle.hfs_fields.specs.declared.mdb.Mdb.{Mdb}
use Rattle.hfs_put.specs.Laid as forks
use Rattle.hfs_put.specs.Laws.{IsLaidInImage}
use Rattle.hfs_volume.specs.InFile.{changed_head, changed_in, head_with}
use Rattle.hfs_volume.specs.declared.in_file.ImagePlace.{ImagePlace}
use Rattle.hfs_put_plan.specs.declared.items.PutItem.{PutItem}
use Rattle.hfs_put_plan.specs.Put.{Arrival}
use Rattle.hfs_put.specs.LaidRuns as image
use Rattle.hfs_put.specs.PutImages.{HasDirectory}
use Rattle.hfs_put.specs.Saved.{IsPut}
use Rattle.hfs_fields.specs.Each.{Each}
use Rattle.hfs_put_sources.specs.Items.{PlannedItem}
use Rattle.hfs_put_sources.specs.Trees.{Tree}
use Rattle.hfs_put_sources.specs.declared.fork_run.ForkRun.{ForkRun}
use Rattle.hfs_volume.specs.Image.{patched}
use Rattle.hfs_volume.proofs.SavedPieces.{length-laid_over}
use Rattle.hfs_put.specs.Arrivals.{arrivals_of}
use Rattle.hfs_put.specs.PutFiles.{IsFilePut, IsImageOf, IsPutList, IsSumBefore, PutFilesHaveDirectory, PutFilesHoldPut, put_file}
use Rattle.hfs_put.proofs.ComingForks.{laid_forks_are_arrivals}
use Rattle.hfs_put.proofs.ComingPlaces.{ArePlacesOf, are-places, arrivals-whole, items-arrivals, length-places}
use Rattle.hfs_put.proofs.InImages.{IsWithin, laid-in-range, no-fewer, runs-within}

-- ---- the bytes before an image

length-head : (sum_at : Option ℕ) (start : ℕ) (bytes head : List ℕ) → IsSumBefore sum_at start → length head ≡ start → length (head_with sum_at bytes head) ≡ start
length-head None start bytes head before long = long
length-head (Some sum_at) start bytes head before long =
    let sum : List ℕ = to_be_bytes w32 (sum_of bytes) in
    let four : length sum ≡ 4 = refl in
    omega (
      arith,
      before,
      long,
      four,
      length-append (take sum_at head ++ sum) (drop (sum_at + 4) head),
      length-append (take sum_at head) sum,
      length-take sum_at head,
      length-drop (sum_at + 4) head,
    )

blocks-more : (n short long : ℕ) → n < short / 512 → short ≤ long → n < long / 512
blocks-more n short long below le = omega (arith, below, le)

-- ---- a file of three parts

module _ (head middle behind : List ℕ) (start len : ℕ) (first : length head ≡ start) (next : length middle ≡ len) where
  parted : head ++ middle ++ behind ≡ head ++ (middle ++ behind)
  parted = append_assoc head middle behind

  take-head : take start (head ++ middle ++ behind) ≡ head
  take-head = ap (take start) parted ∙ take_at head (middle ++ behind) start first

  take-middle : take len (drop start (head ++ middle ++ behind)) ≡ middle
  take-middle = ap (λ (l : List ℕ). take len (drop start l)) parted ∙ ap (take len) (drop_at head (middle ++ behind) start first) ∙ take_at middle behind len next

  drop-middle : drop (start + len) (head ++ middle ++ behind) ≡ behind
  drop-middle = drop_at (head ++ middle) behind (start + len) (omega (arith, length-append head middle, first, next))

-- ---- the whole

module _ (copy : List ℕ) (target now : ℕ) (items : List PlannedItem) (places : List PutItem) (patch : Numbered) (runs : List ForkRun) (ids : List ℕ)
    (place : ImagePlace) (file : List ℕ) (host : Tree) (list : IsPutList copy target now items places patch runs ids)
    (within : AreWithin (changes patch) (place.range.len / 512)) (is : IsImageOf copy place file) where
  abbrev start : ℕ
  start = place.range.start

  abbrev len : ℕ
  len = place.range.len

  abbrev own : List ℕ
  own = bytes_in place.range file

  abbrev arrivals : List Arrival
  arrivals = arrivals_of host items places

  abbrev laid : List ℕ
  laid = forks.laid start host items runs file

  abbrev middle : List ℕ
  middle = patched patch (image.laid arrivals runs own)

  are : ArePlacesOf items places
  are = are-places (volume_of copy) target list.replace [] items places list.placed

  same : length places ≡ length items
  same = length-places items places are

  puts : IsPut target now arrivals ids list.over.written own middle
  puts = list.over.puts arrivals own (items-arrivals host items places same) (arrivals-whole host items places are) is.copied

  length-own : length own ≡ len
  length-own = omega (arith, is.inside, length-take len (drop start file), length-drop start file)

  -- ---- the image

  abbrev with_forks : List ℕ
  with_forks = image.laid arrivals runs own

  patch-within : AreWithin (changes patch) (block_count with_forks)
  patch-within n block found =
      let here = within n block found in
      let more : len ≤ length with_forks = (let few = no-fewer arrivals runs own in omega (arith, few, length-own)) in
      (blocks-more n len (length with_forks) here.0 more, here.1)

  length-middle : length middle ≡ len
  length-middle = puts.agrees.len ∙ length-own

  stays : length with_forks ≡ length own
  stays = sym (length-laid_over (changes patch) with_forks patch-within) ∙ puts.agrees.len

  in-range : IsLaidInImage start len host items runs file
  in-range = laid-in-range start len host items file is.inside runs
      (subst (λ (n : ℕ). Each (IsWithin n) runs) length-own (runs-within arrivals runs own stays))

  range-is : bytes_in place.range laid ≡ with_forks
  range-is = in-range.image ∙ laid_forks_are_arrivals host items places same runs own

  middle-is : changed_in place.range patch laid ≡ middle
  middle-is = ap (patched patch) range-is

  -- ---- the file

  abbrev head : List ℕ
  head = head_with place.sum_at middle (take start file)

  abbrev behind : List ℕ
  behind = drop (start + len) file

  head-is : changed_head place patch laid ≡ head
  head-is = λ i. head_with place.sum_at (middle-is i) (in-range.before i)

  saved-is : put_file place patch host items runs file ≡ head ++ middle ++ behind
  saved-is = λ i. head-is i ++ middle-is i ++ in-range.behind i

  long-head : length head ≡ start
  long-head = length-head place.sum_at start middle (take start file) is.sum_before (omega (arith, is.inside, length-take start file))

  image-is : bytes_in place.range (put_file place patch host items runs file) ≡ middle
  image-is = ap (bytes_in place.range) saved-is ∙ take-middle head middle behind start len long-head length-middle

  pub is-file-put : IsFilePut target now arrivals ids list.over.written place file (put_file place patch host items runs file)
  is-file-put = record {
    image = subst (λ (bytes : List ℕ). IsPut target now arrivals ids list.over.written own bytes) (sym image-is) puts;
    before = ap (take start) saved-is ∙ take-head head middle behind start len long-head length-middle
        ∙ ap (λ (bytes : List ℕ). head_with place.sum_at bytes (take start file)) (sym image-is);
    behind = ap (drop (start + len)) saved-is ∙ drop-middle head middle behind start len long-head length-middle;
  }

  pub directory-is : (directory : Mdb) → HasDirectory copy places patch runs directory
      → mdb_in (block_at (bytes_in place.range (put_file place patch host items runs file))) ≡ directory
  directory-is directory has =
      ap (λ (bytes : List ℕ). mdb_in (block_at bytes)) image-is
      ∙ has arrivals own (items-arrivals host items places same) (arrivals-whole host items places are) is.copied

pub put_files_hold_put : PutFilesHoldPut
put_files_hold_put = λ copy target now items places patch runs ids place file host list within is.
    is-file-put copy target now items places patch runs ids place file host list within is

pub put_files_have_directory : PutFilesHaveDirectory
put_files_have_directory = λ copy target now items places patch runs ids place file host directory list within is has.
    directory-is copy target now items places patch runs ids place file host list within is directory has
