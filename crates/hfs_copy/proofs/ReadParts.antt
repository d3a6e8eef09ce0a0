-- What was read of an image, with changed blocks laid over both, decides what the image decides.
use Rattle.std.proofs.Common.{◌≡◌, ℕ, Bool, true, false, List, [], ◌∷◌, Option, IsSome, refl, sym, ap, subst, ◌∙◌}
use Rattle.std.specs.Prelude.{◌&&◌, is_some, unwrap_or}
use Rattle.std.specs.List.{flat_map}
use Rattle.std.specs.Option.{is_none}
use Rattle.hfs_fields.specs.declared.mdb.Mdb.{Mdb}
use Rattle.hfs_fields.specs.declared.extent.Extent.{Extent}
use Rattle.hfs_blocks.specs.declared.run.Run.{Run}
use Rattle.hfs_blocks.specs.Blocks.{block_at, run_of, AreRunsWithin}
use Rattle.hfs_blocks.specs.Layers.{Numbered, Changes, changes, over, AreWithin}
use Rattle.hfs_space.specs.Faults.{is_tree_file}
use Rattle.hfs_space.specs.TreeFiles.{tree_blocks}
use Rattle.hfs_check.specs.Agree.{bitmap_blocks}
use Rattle.hfs_check.specs.Faults.{mdb_fault}
use Rattle.hfs_check.specs.Parts.{Blocks, mdb_in, extents_blocks, extents_nodes, catalog_extents, catalog_blocks}
use Rattle.hfs_check.specs.Sound.{IsMdbSound}
use Rattle.hfs_check.proofs.LawsProved.{no_mdb_fault}
use Rattle.hfs_image.specs.Gathered.{HasRead}
use Rattle.hfs_image.specs.Needed.{AgreeOn}
use Rattle.hfs_image.proofs.SameParts.{mdb-same, extents_blocks-same, catalog_blocks-same}
use Rattle.hfs_repair.specs.Opened.{is_extents_right, catalog_file_of}
use Rattle.hfs_repair.proofs.Openings.{is-some-none}
use Rattle.hfs_source.specs.Sparse.{sparse, HasEach, HasGrown, IsOf, StaysOf}
use Rattle.hfs_source.proofs.SparseLemmas.{each-grown, each-same, each-of, has-grown}
use Rattle.hfs_copy.specs.Found.{has_catalog}
use Rattle.hfs_copy.specs.Mended.{DecideAlike, laid_over_read, laid_over_image, DecidesFor}
use Rattle.hfs_copy.proofs.SameNumbers.{directory-wrong, extents-file-wrong, extents-tree-wrong, catalog-file-wrong, all-same, extents-agree, catalog-agree, catalog-file, file-same}

-- ---- changed blocks laid over both

pub agree-over : (g : Changes) (old new : Blocks) (ns : List ℕ) → AgreeOn ns old new → AgreeOn ns (over g old) (over g new)
agree-over g old new [] h = tt
agree-over g old new (n ∷ ns) h = (ap (unwrap_or (g n)) h.0, agree-over g old new ns h.1)

-- ---- more was read

-- an image that has what was read has what was read before
pub of-earlier : (image : List ℕ) (old new : Numbered) → HasGrown old new → IsOf image new → IsOf image old
of-earlier image old new grown of = λ n block is. of n block (grown n (subst (λ (o : Option (List ℕ)). IsSome o) (sym is) refl) ∙ is)

module _ (changed old new : Numbered) (grown : HasGrown old new) where
  abbrev before : Blocks
  before = laid_over_read changed old

  abbrev after : Blocks
  after = laid_over_read changed new

  later-agree : (ns : List ℕ) → HasEach old ns → AgreeOn ns before after
  later-agree ns has = agree-over (changes changed) (sparse old) (sparse new) ns (each-same old new grown ns has)

  pub directory-stays : IsSome (changes old 2) → mdb_in after ≡ mdb_in before
  directory-stays two = mdb-same before after (later-agree (2 ∷ []) (two, tt)).0

  pub is-later : (mdb : Mdb) → IsSome (changes old 2) → mdb ≡ mdb_in before → mdb ≡ mdb_in after
  is-later mdb two is = is ∙ sym (directory-stays two)

  -- the blocks of the extents tree, which lies in these runs
  pub extents-read : (mdb : Mdb) (runs : List Run) → IsSome (changes old 2) → mdb ≡ mdb_in before
      → flat_map run_of runs ≡ tree_blocks mdb mdb.extents_file mdb.extents_file_size → HasEach new (flat_map run_of runs) → HasEach new (extents_blocks after)
  unfolding extents_blocks
  extents-read mdb runs two is numbers has =
      subst (λ (ns : List ℕ). HasEach new ns)
      (numbers ∙ ap (λ (m : Mdb). tree_blocks m m.extents_file m.extents_file_size) (is-later mdb two is)) has

-- ---- what was read of an image

module _ (total : ℕ) (changed read : Numbered) (image : List ℕ) (of : IsOf image read) (two : IsSome (changes read 2)) where
  abbrev own : Blocks
  own = laid_over_read changed read

  abbrev its : Blocks
  its = laid_over_image changed image

  read-agree : (ns : List ℕ) → HasEach read ns → AgreeOn ns own its
  read-agree ns has = agree-over (changes changed) (sparse read) (block_at image) ns (each-of image read of ns has)

  directory : mdb_in its ≡ mdb_in own
  directory = mdb-same own its (read-agree (2 ∷ []) (two, tt)).0

  extents : HasEach read (extents_blocks own) → extents_nodes its ≡ extents_nodes own
  extents has = extents-agree own its directory (read-agree (extents_blocks own) has)

-- ---- where nothing more is read

pub decides-directory : (total : ℕ) (changed read : Numbered) → IsSome (changes read 2)
    → is_some (mdb_fault total (mdb_in (laid_over_read changed read))) ≡ true → DecidesFor total changed read
decides-directory total changed read two wrong = λ image of.
    directory-wrong total (laid_over_read changed read) (laid_over_image changed image) (directory total changed read image of two)
    (is-some-none (mdb_fault total (mdb_in (laid_over_read changed read))) true wrong)

right-directory : (total : ℕ) (blocks : Blocks) (mdb : Mdb) → IsMdbSound total mdb → mdb ≡ mdb_in blocks → is_none (mdb_fault total (mdb_in blocks)) ≡ true
right-directory total blocks mdb sound is = ap is_none (ap (mdb_fault total) (sym is) ∙ (no_mdb_fault total mdb).1 sound)

pub decides-no-extents : (total : ℕ) (changed read : Numbered) (mdb : Mdb) → IsSome (changes read 2)
    → IsMdbSound total mdb → mdb ≡ mdb_in (laid_over_read changed read) → is_tree_file mdb mdb.extents_file mdb.extents_file_size ≡ false
    → DecidesFor total changed read
decides-no-extents total changed read mdb two sound is wrong = λ image of.
    extents-file-wrong total (laid_over_read changed read) (laid_over_image changed image) (directory total changed read image of two)
    (right-directory total (laid_over_read changed read) mdb sound is)
    (ap (λ (m : Mdb). is_tree_file m m.extents_file m.extents_file_size) (sym is) ∙ wrong)

pub decides-no-catalog : (total : ℕ) (changed read : Numbered) (mdb : Mdb) → IsSome (changes read 2)
    → HasEach read (extents_blocks (laid_over_read changed read)) → IsMdbSound total mdb → mdb ≡ mdb_in (laid_over_read changed read)
    → has_catalog (laid_over_read changed read) mdb ≡ false → DecidesFor total changed read
decides-no-catalog total changed read mdb two has sound is wrong = λ image of.
    let own = laid_over_read changed read in
    let its = laid_over_image changed image in
    let m = directory total changed read image of two in
    let x = extents total changed read image of two has in
    let right = right-directory total own mdb sound is in
    by (is_extents_right own (mdb_in own)) own its refl m x right
    (ap (λ (d : Mdb). has_catalog own d) (sym is) ∙ wrong)
  where
    by : (b : Bool) (own its : Blocks) → is_extents_right own (mdb_in own) ≡ b → (m : mdb_in its ≡ mdb_in own) → extents_nodes its ≡ extents_nodes own
        → is_none (mdb_fault total (mdb_in own)) ≡ true → has_catalog own (mdb_in own) ≡ false → DecideAlike total own its
    by false own its e m x right none = extents-tree-wrong total own its m right x e
    by true own its e m x right none =
        catalog-file-wrong total own its m right x e
        (ap (λ (file : List Extent). is_tree_file (mdb_in own) file (mdb_in own).catalog_file_size) (sym (catalog-file own))
        ∙ ap (λ (b : Bool). b && is_tree_file (mdb_in own) (catalog_file_of own (mdb_in own)) (mdb_in own).catalog_file_size) (sym e) ∙ none)

-- ---- where both trees were read

file-is : (a b : Blocks) → mdb_in b ≡ mdb_in a → extents_nodes b ≡ extents_nodes a → catalog_extents b ≡ catalog_extents a
file-is a b m x = file-same a b m x

places-are : (early : Blocks) (mdb : Mdb) → mdb ≡ mdb_in early → tree_blocks mdb (catalog_file_of early mdb) mdb.catalog_file_size ≡ catalog_blocks early
unfolding catalog_blocks
places-are early mdb is = ap (λ (d : Mdb). tree_blocks d (catalog_file_of early d) d.catalog_file_size) is
    ∙ ap (λ (file : List Extent). tree_blocks (mdb_in early) file (mdb_in early).catalog_file_size) (catalog-file early)

pub decides-all : (total : ℕ) (changed old new : Numbered) (mdb : Mdb) (runs : List Run) → HasGrown old new
    → IsSome (changes old 2) → HasEach old (bitmap_blocks mdb) → HasEach old (extents_blocks (laid_over_read changed old)) → mdb ≡ mdb_in (laid_over_read changed old)
    → flat_map run_of runs ≡ tree_blocks mdb (catalog_file_of (laid_over_read changed old) mdb) mdb.catalog_file_size → HasEach new (flat_map run_of runs)
    → DecidesFor total changed new
decides-all total changed old new mdb runs grown two bitmap has is numbers read = λ image of.
    let early = laid_over_read changed old in
    let own = laid_over_read changed new in
    let its = laid_over_image changed image in
    let m-own = directory-stays changed old new grown two in
    let x-own = extents-agree early own m-own (agree-over (changes changed) (sparse old) (sparse new) (extents_blocks early) (each-same old new grown (extents_blocks early) has)) in
    let f-own = file-is early own m-own x-own in
    let places : extents_blocks own ≡ extents_blocks early = extents_blocks-same early own m-own in
    let held : HasEach new (extents_blocks own) = subst (λ (ns : List ℕ). HasEach new ns) (sym places) (each-grown old new grown (extents_blocks early) has) in
    let two-new = has-grown old new grown 2 two in
    let m = directory total changed new image of two-new in
    let x = extents total changed new image of two-new held in
    let f = file-is own its m x in
    let catalog-places : flat_map run_of runs ≡ catalog_blocks own = numbers ∙ places-are early mdb is ∙ sym (catalog_blocks-same early own m-own f-own) in
    let nodes = catalog-agree own its m f (agree-over (changes changed) (sparse new) (block_at image) (catalog_blocks own)
    (each-of image new of (catalog_blocks own) (subst (λ (ns : List ℕ). HasEach new ns) catalog-places read))) in
    let bits : HasEach new (bitmap_blocks (mdb_in own)) =
    subst (λ (d : Mdb). HasEach new (bitmap_blocks d)) (is ∙ sym m-own) (each-grown old new grown (bitmap_blocks mdb) bitmap) in
    all-same total own its m x nodes
    (agree-over (changes changed) (sparse new) (block_at image) (bitmap_blocks (mdb_in own)) (each-of image new of (bitmap_blocks (mdb_in own)) bits))

-- ---- runs that were read

pub reads-runs : (known : Option (List ℕ)) (total many : ℕ) (old new : Numbered) (runs same : List Run) → AreRunsWithin runs many → many ≡ total → same ≡ runs
    → HasGrown old new → StaysOf known old new → ((t : ℕ) → AreRunsWithin same t → AreWithin (changes old) t → AreWithin (changes new) t)
    → HasRead known total old new
reads-runs known total many old new runs same within e is grown stays keeps = record {
  grown = grown;
  stays = stays;
  within = keeps total (subst (λ (rs : List Run). AreRunsWithin rs total) (sym is) (subst (λ (t : ℕ). AreRunsWithin runs t) e within));
}

-- what is seen through changed blocks and what was read
pub seen-is : (patch changed : Numbered) (seen read : Numbered) → patch ≡ changed → seen ≡ read → over (changes patch) (sparse seen) ≡ laid_over_read changed read
seen-is patch changed seen read e f = λ i. over (changes (e i)) (sparse (f i))
