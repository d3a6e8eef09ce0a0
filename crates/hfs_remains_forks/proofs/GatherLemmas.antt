-- What was read of an image are its needed blocks, found by those that were read before.
use Rattle.std.proofs.Common.{◌≡◌, ℕ, zero, suc, ◌+◌, ◌-◌, ◌*◌, ◌<◌, ◌≤◌, Bool, true, List, [], ◌∷◌, length, Option, Some, None, IsSome, slice_index_or, sym, ap, subst, ◌∙◌, arith, ⊎_elim}
use Rattle.std.specs.List.{range_with_len}
use Rattle.std.proofs.Math.Nat.{suc-mul, add-mul, mul-le-mul_right}
use Rattle.std.proofs.lemmas.Bool.{cases_lt}
use Rattle.hfs_fields.specs.Mdb.{mdb_in_block}
use Rattle.hfs_fields.specs.declared.mdb.Mdb.{Mdb}
use Rattle.hfs_fields.specs.declared.extent.Extent.{Extent}
use Rattle.hfs_blocks.specs.Layers.{Numbered, changes}
use Rattle.hfs_fields.specs.Each.{Each}
use Rattle.hfs_fields.proofs.ElementLemmas.{each-append}
use Rattle.hfs_space.specs.Forks.{blocks_each}
use Rattle.hfs_check.specs.Parts.{Blocks}
use Rattle.hfs_image.specs.Needed.{AgreeOn}
use Rattle.hfs_source.specs.Sparse.{HasEach, HasGrown, sparse}
use Rattle.hfs_source.proofs.Fetched.{each-range, range-at}
use Rattle.hfs_source.proofs.SparseLemmas.{each-grown, each-same, grown-on, has-grown}
use Rattle.hfs_remains.specs.Allocation.{start_of}
use Rattle.hfs_remains.specs.CatalogRecords.{looks_elsewhere}
use Rattle.hfs_remains.specs.Directory.{beginning_of, mdb_at, usual_directory}
use Rattle.hfs_remains.specs.Remains.{catalog_file_blocks, catalog_file_extents, extents_file_blocks}
use Rattle.hfs_remains.specs.TreeFiles.{FileBlocks, file_blocks}
use Rattle.hfs_remains_forks.specs.FileReads.{HasPlaces, LieBeside}
use Rattle.hfs_remains_forks.specs.Needed.{blocks_of_place, is_elsewhere, is_elsewhere_by, listed, needed_at, needed_by, needed_of_file, needed_of_files, needed_of_finds, needed_of_places, needed_of_trees, wants_all}
use Rattle.hfs_remains_forks.proofs.SameFiles.{file-extents-same}
use Rattle.hfs_remains_forks.proofs.SameFinds.{fields-same, needed_at-same, place-agree, places-same, usual-same}

-- ---- a directory

-- a block, and then those in which its trees begin
pub place-read : (total n : ℕ) (own extents all : Numbered) (mdb : Mdb) → mdb ≡ mdb_at (sparse own) n → IsSome (changes own n)
    → HasGrown own extents → HasEach extents (listed (beginning_of total mdb mdb.extents_file))
    → HasGrown extents all → HasEach all (listed (beginning_of total mdb mdb.catalog_file))
    → HasEach all (needed_at total (sparse all) n)
place-read total n own extents all mdb is some grown first later second =
    let both = grown-on own extents all grown later in
    let here : mdb_at (sparse all) n ≡ mdb = ap mdb_in_block (each-same own all both (n ∷ []) (some, tt)).0 ∙ sym is in
    let trees : HasEach all (needed_of_trees total mdb) =
    each-append (λ k. IsSome (changes all k)) (listed (beginning_of total mdb mdb.extents_file)) (listed (beginning_of total mdb mdb.catalog_file))
    (each-grown extents all later (listed (beginning_of total mdb mdb.extents_file)) first) second in
    (has-grown own all both n some, subst (λ (m : Mdb). HasEach all (needed_of_trees total m)) (sym here) trees)

-- it is still read later
place-later : (total n : ℕ) (old new : Numbered) → HasGrown old new → HasEach old (needed_at total (sparse old) n) → HasEach new (needed_at total (sparse new) n)
place-later total n old new grown has =
    subst (λ (ns : List ℕ). HasEach new ns)
    (sym (needed_at-same total (sparse old) (sparse new) n (each-same old new grown (needed_at total (sparse old) n) has)))
    (each-grown old new grown (needed_at total (sparse old) n) has)

-- both places
pub places-read : (total : ℕ) (old new : Numbered) → HasGrown old new → HasEach old (needed_at total (sparse old) 2) → HasEach new (needed_at total (sparse new) (total - 2))
    → HasEach new (needed_of_places total (sparse new))
places-read total old new grown first last =
    each-append (λ k. IsSome (changes new k)) (needed_at total (sparse new) 2) (needed_at total (sparse new) (total - 2)) (place-later total 2 old new grown first) last

-- ---- a file

-- a missing block
pub none-places : (read : Numbered) (mdb : Mdb) (file : FileBlocks) (i : ℕ) → slice_index_or file i None ≡ None → HasPlaces read mdb file i (i + 1)
none-places read mdb file i missing = λ k least lt.
    let here : k ≡ i = omega (arith, least, lt) in
    subst (λ (place : Option ℕ). HasEach read (blocks_of_place mdb place)) (sym (ap (λ (n : ℕ). slice_index_or file n None) here ∙ missing)) tt

-- as many blocks as lie side by side
pub span : (mdb : Mdb) (b step : ℕ) → 1 ≤ step → start_of mdb (b + (step - 1)) + blocks_each mdb ≡ start_of mdb b + step * blocks_each mdb
span mdb b zero some = absurd (omega (arith, some))
span mdb b (suc m) some =
    let each = blocks_each mdb in
    let one : b + (suc m - 1) ≡ b + m = omega arith in
    let product : (b + m) * each ≡ b * each + m * each = add-mul b m each in
    let more : suc m * each ≡ m * each + each = suc-mul m each in
    ap (λ (n : ℕ). start_of mdb n + each) one ∙ omega (arith, product, more)

pub beside-places : (read : Numbered) (mdb : Mdb) (file : FileBlocks) (i b step : ℕ) → LieBeside file i b step
    → HasEach read (range_with_len (start_of mdb b) (step * blocks_each mdb)) → HasPlaces read mdb file i (i + step)
beside-places read mdb file i b step beside has = λ k least lt.
    let each = blocks_each mdb in
    let j = k - i in
    let few : j < step = omega (arith, least, lt) in
    let place : slice_index_or file k None ≡ Some (b + j) = ap (λ (n : ℕ). slice_index_or file n None) (let e : k ≡ i + j = omega (arith, least) in e) ∙ beside j few in
    let product : (b + j) * each ≡ b * each + j * each = add-mul b j each in
    let upper : suc j * each ≤ step * each = mul-le-mul_right each few in
    let more : suc j * each ≡ j * each + each = suc-mul j each in
    subst (λ (p : Option ℕ). HasEach read (blocks_of_place mdb p)) (sym place)
    (each-range (λ n. IsSome (changes read n)) (start_of mdb (b + j)) each
    (λ r below.
    let number : start_of mdb b + (j * each + r) ≡ start_of mdb (b + j) + r = omega (arith, product) in
    subst (λ (n : ℕ). IsSome (changes read n)) number
    (range-at (λ n. IsSome (changes read n)) (start_of mdb b) (step * each) has (j * each + r) (omega (arith, upper, more, below)))))

-- so many blocks in a row were read
pub row-read : (read : Numbered) (mdb : Mdb) (file : FileBlocks) (i b step start behind : ℕ) → 1 ≤ step → LieBeside file i b step → start ≡ start_of mdb b
    → behind ≡ start_of mdb (b + (step - 1)) + blocks_each mdb → HasEach read (range_with_len start (behind - start)) → HasPlaces read mdb file i (i + step)
row-read read mdb file i b step start behind some beside begins ends has =
    let whole : behind ≡ start + step * blocks_each mdb = ends ∙ span mdb b step some ∙ ap (λ (n : ℕ). n + step * blocks_each mdb) (sym begins) in
    let count : behind - start ≡ step * blocks_each mdb = omega (arith, whole) in
    beside-places read mdb file i b step beside (subst (λ (r : ℕ × ℕ). HasEach read (range_with_len r.0 r.1)) (λ t. (begins t, count t)) has)

-- the row doesn't end before it begins
pub row-ends : (mdb : Mdb) (b step start behind : ℕ) → 1 ≤ step → start ≡ start_of mdb b → behind ≡ start_of mdb (b + (step - 1)) + blocks_each mdb → start ≤ behind
row-ends mdb b step start behind some begins ends =
    let whole : behind ≡ start + step * blocks_each mdb = ends ∙ span mdb b step some ∙ ap (λ (n : ℕ). n + step * blocks_each mdb) (sym begins) in
    omega (arith, whole)

-- some more places
pub places-more : (old new : Numbered) → HasGrown old new → (mdb : Mdb) (file : FileBlocks) (i step : ℕ) → HasPlaces new mdb file i (i + step)
    → HasPlaces old mdb file 0 i → HasPlaces new mdb file 0 (i + step)
places-more old new grown mdb file i step here before = λ k least lt.
    ⊎_elim
    (λ (low : k < i). each-grown old new grown (blocks_of_place mdb (slice_index_or file k None)) (before k least low))
    (λ (high : i ≤ k). here k high lt)
    (cases_lt k i)

each-of-places : (P : ℕ → Type 0) (mdb : Mdb) (file : FileBlocks) → ((k : ℕ) → k < length file → Each P (blocks_of_place mdb (slice_index_or file k None)))
    → Each P (needed_of_file mdb file)
each-of-places P mdb [] f = tt
each-of-places P mdb (place ∷ file) f =
    each-append P (blocks_of_place mdb place) (needed_of_file mdb file) (f 0 (omega arith)) (each-of-places P mdb file (λ k lt. f (suc k) (omega (arith, lt))))

-- all of them
pub file-read : (read : Numbered) (mdb : Mdb) (file : FileBlocks) (n : ℕ) → length file ≤ n → HasPlaces read mdb file 0 n → HasEach read (needed_of_file mdb file)
file-read read mdb file n all has = each-of-places (λ k. IsSome (changes read k)) mdb file (λ k lt. has k (omega arith) (omega (arith, lt, all)))

-- ---- both files

module _ (total : ℕ) (old new : Numbered) (grown : HasGrown old new) (mdb : Mdb) (some : 1 ≤ blocks_each mdb) (has : HasEach old (needed_of_file mdb (extents_file_blocks total mdb)))
  where
    agree : AgreeOn (needed_of_file mdb (extents_file_blocks total mdb)) (sparse old) (sparse new)
    agree = each-same old new grown (needed_of_file mdb (extents_file_blocks total mdb)) has

    module _ (extents : List Extent) (file : FileBlocks) (all : extents ≡ catalog_file_extents total (sparse old) mdb) (is : file ≡ file_blocks total mdb extents) where
      extents-now : extents ≡ catalog_file_extents total (sparse new) mdb
      extents-now = all ∙ sym (file-extents-same total (sparse old) (sparse new) mdb some agree)

      file-now : file ≡ catalog_file_blocks total (sparse new) mdb
      file-now = is ∙ ap (file_blocks total mdb) extents-now

      pub files-read : HasEach new (needed_of_file mdb file) → HasEach new (needed_of_files total (sparse new) mdb)
      files-read catalog =
          each-append (λ k. IsSome (changes new k)) (needed_of_file mdb (extents_file_blocks total mdb)) (needed_of_file mdb (catalog_file_blocks total (sparse new) mdb))
          (each-grown old new grown (needed_of_file mdb (extents_file_blocks total mdb)) has)
          (subst (λ (bs : FileBlocks). HasEach new (needed_of_file mdb bs)) file-now catalog)

      pub elsewhere-read : looks_elsewhere (sparse new) mdb extents file ≡ is_elsewhere total (sparse new) mdb
      elsewhere-read = λ i. looks_elsewhere (sparse new) mdb (extents-now i) (file-now i)

-- ---- all of them

-- no directory is in its place
pub none-read : (total : ℕ) (read : Numbered) → HasEach read (needed_of_places total (sparse read)) → usual_directory total (sparse read) ≡ None
    → HasEach read (needed_of_finds total (sparse read))
unfolding needed_of_finds
none-read total read has none =
    each-append (λ k. IsSome (changes read k)) (needed_of_places total (sparse read)) (needed_by total (sparse read) (usual_directory total (sparse read))) has
    (subst (λ (o : Option ℕ). HasEach read (needed_by total (sparse read) o)) (sym none) tt)

pub none-wants : (total : ℕ) (blocks : Blocks) → usual_directory total blocks ≡ None → wants_all total blocks ≡ true
unfolding wants_all
none-wants total blocks none = ap (is_elsewhere_by total blocks) none

module _ (total : ℕ) (old new : Numbered) (grown : HasGrown old new) (has : HasEach old (needed_of_places total (sparse old))) (n : ℕ) (mdb : Mdb)
    (is : usual_directory total (sparse old) ≡ Some n) (fields : mdb ≡ mdb_at (sparse old) n) where
  places-agree : AgreeOn (needed_of_places total (sparse old)) (sparse old) (sparse new)
  places-agree = each-same old new grown (needed_of_places total (sparse old)) has

  pub usual-read : usual_directory total (sparse new) ≡ Some n
  usual-read = usual-same total (sparse old) (sparse new) places-agree ∙ is

  fields-now : mdb ≡ mdb_at (sparse new) n
  fields-now = fields ∙ sym (fields-same total (sparse old) (sparse new) n (place-agree total (sparse old) (sparse new) places-agree n is))

  pub all-read : HasEach new (needed_of_files total (sparse new) mdb) → HasEach new (needed_of_finds total (sparse new))
  unfolding needed_of_finds
  all-read files =
      each-append (λ k. IsSome (changes new k)) (needed_of_places total (sparse new)) (needed_by total (sparse new) (usual_directory total (sparse new)))
      (subst (λ (ns : List ℕ). HasEach new ns) (sym (places-same total (sparse old) (sparse new) places-agree))
      (each-grown old new grown (needed_of_places total (sparse old)) has))
      (subst (λ (o : Option ℕ). HasEach new (needed_by total (sparse new) o)) (sym usual-read)
      (subst (λ (m : Mdb). HasEach new (needed_of_files total (sparse new) m)) fields-now files))

  pub wants-read : (elsewhere : Bool) → elsewhere ≡ is_elsewhere total (sparse new) mdb → wants_all total (sparse new) ≡ elsewhere
  unfolding wants_all
  wants-read elsewhere told = ap (is_elsewhere_by total (sparse new)) usual-read ∙ ap (is_elsewhere total (sparse new)) (sym fields-now) ∙ sym told
