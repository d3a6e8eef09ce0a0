-- What was found of a volume stays found while more of it is read.
use Rattle.std.proofs.Common.{◌≡◌, ℕ, ◌+◌, ◌-◌, ◌*◌, ◌≤◌, ◌<◌, Bool, true, false, List, [], ◌∷◌, ◌++◌, length, map, Option, Some, None, IsSome, sym, ap, subst, ◌∙◌, arith, true≢false, ⊎_elim}
use Rattle.std.specs.Prelude.{◌%◌, ◌&&◌, IfSome, is_some}
use Rattle.std.specs.List.{flat_map, range_with_len}
use Rattle.std.specs.Option.{is_none}
use Rattle.std.proofs.lemmas.Bool.{and_parts, cases_lt}
use Rattle.std.proofs.lemmas.List.{length-map}
use Rattle.hfs_fields.proofs.ElementLemmas.{each-append}
use Rattle.hfs_blocks.specs.declared.run.Run.{Run}
use Rattle.hfs_btree.specs.Header.{bit_of}
use Rattle.hfs_blocks.specs.Blocks.{run_of, nodes_in, AreRunsWithin}
use Rattle.hfs_blocks.specs.Layers.{Numbered, changes, AreWithin}
use Rattle.hfs_blocks.proofs.LayerLemmas.{AreWithin-nothing}
use Rattle.hfs_fields.specs.declared.mdb.Mdb.{Mdb}
use Rattle.hfs_fields.specs.declared.extent.Extent.{Extent}
use Rattle.hfs_space.specs.Faults.{is_tree_file}
use Rattle.hfs_space.proofs.FileLengthLemmas.{length-tree_nodes}
use Rattle.hfs_space.proofs.LawTypes.{NoTreeFileFault}
use Rattle.hfs_space.specs.TreeFiles.{tree_nodes, tree_blocks}
use Rattle.hfs_space.specs.TreeKeys.{ext_keys}
use Rattle.hfs_catalog.specs.Tree.{cat_keys}
use Rattle.hfs_check.specs.declared.mount_fault.MountFault.{MountFault}
use Rattle.hfs_check.specs.Agree.{bitmap_blocks}
use Rattle.hfs_check.specs.Faults.{mdb_fault}
use Rattle.hfs_check.specs.Answers.{extents_check_fault}
use Rattle.hfs_check.specs.Parts.{Blocks, mdb_in, extents_blocks, extents_nodes, catalog_extents, catalog_blocks, catalog_nodes}
use Rattle.hfs_source.specs.Sparse.{sparse, HasEach, HasGrown, IsOf, StaysOf}
use Rattle.hfs_source.proofs.Fetched.{range-at}
use Rattle.hfs_source.proofs.SparseLemmas.{grown-itself, grown-on, has-grown, each-grown, each-same, stays-on}
use Rattle.hfs_image.specs.Marked.{where_right, needed_of_tree}
use Rattle.hfs_image.specs.Needed.{AgreeOn, is_mdb_right, has_extents_file, is_extents_tree_right, has_catalog_file, needed_of_extents, needed_of_catalog, needed_of_trees, needed_blocks}
use Rattle.hfs_image.specs.Gathered.{LieAt, HasRead, IsOfKnown}
use Rattle.hfs_image.specs.TreeReads.{nodes_of, block_for, HasNode, ReadsRuns, HasMarkedFrom, LieBeside}
use Rattle.hfs_fields.proofs.CommonLemmas.{none-true as no-fault}
use Rattle.hfs_image.proofs.SameParts.{mdb-same, extents_blocks-same, extents-map, catalog-map, catalog_blocks-same}
use Rattle.hfs_image.proofs.SameFaults.{has_extents-same, needed_of_extents-same, x}
use Rattle.hfs_image.proofs.SameTrees.{nodes-map}
use Rattle.hfs_image.proofs.TreeNodes.{has-where}

-- ---- reading more and more

pub of-later : (known : Option (List ℕ)) (old new : Numbered) → IsOfKnown known old → StaysOf known old new → IsOfKnown known new
of-later None old new of stays = tt
of-later (Some bytes) old new of stays = stays of

pub reads-itself : (known : Option (List ℕ)) (total : ℕ) (read : Numbered) → HasRead known total read read
reads-itself known total read = record { grown = grown-itself read; stays = same known; within = λ h. h }
  where
    same : (known : Option (List ℕ)) → StaysOf known read read
    same None = tt
    same (Some bytes) = λ of. of

pub reads-on : (known later : Option (List ℕ)) (total : ℕ) (old middle new : Numbered) → later ≡ known → HasRead known total old middle
    → HasRead later total middle new → HasRead known total old new
reads-on known later total old middle new e p q = record {
  grown = grown-on old middle new p.grown q.grown;
  stays = stays-on known old middle new p.stays (subst (λ o. StaysOf o middle new) e q.stays);
  within = λ h. q.within (p.within h);
}

pub of-start : (known : Option (List ℕ)) (new : Numbered) → StaysOf known [] new → IfSome known (λ bytes. IsOf bytes new)
of-start None new h = tt
of-start (Some bytes) new h = h (λ n block found. absurd (none_some block found))
  where
    none_some : (block : List ℕ) → None ≡ Some block → ⊥
    none_some block e = cc

-- ---- what was found

module _ (old new : Numbered) (grown : HasGrown old new) (has_mdb : IsSome (changes old 2)) where
  pub mdb-stays : mdb_in (sparse new) ≡ mdb_in (sparse old)
  mdb-stays = mdb-same (sparse old) (sparse new) (each-same old new grown (2 ∷ []) (has_mdb, tt)).0

  pub extents_blocks-stay : extents_blocks (sparse new) ≡ extents_blocks (sparse old)
  extents_blocks-stay = extents_blocks-same (sparse old) (sparse new) mdb-stays

  pub has_extents-stays : has_extents_file (sparse new) ≡ has_extents_file (sparse old)
  has_extents-stays = has_extents-same (sparse old) (sparse new) mdb-stays

  -- a tree in runs that were found
  module _ (total : ℕ) (runs : List Run) (size : ℕ) where
    pub has_extents-now : LieAt total (extents_blocks (sparse old)) runs → size ≡ (mdb_in (sparse old)).extents_file_size
        → HasEach new (needed_of_tree ext_keys size (nodes_of new runs) (flat_map run_of runs)) → HasEach new (needed_of_extents (sparse new))
    unfolding nodes_in
    has_extents-now lie size_is h =
        let nodes : nodes_of new runs ≡ extents_nodes (sparse new) = ap (map (sparse new)) lie.numbers ∙ sym (extents-map (sparse old) (sparse new) mdb-stays) in
        let many : size ≡ (mdb_in (sparse new)).extents_file_size = size_is ∙ ap (λ (m : Mdb). m.extents_file_size) (sym mdb-stays) in
        let numbers : flat_map run_of runs ≡ extents_blocks (sparse new) = lie.numbers ∙ sym extents_blocks-stay in
        subst (λ ns. HasEach new ns) (λ i. needed_of_tree ext_keys (many i) (nodes i) (numbers i)) h

  module _ (has : HasEach old (needed_of_extents (sparse old))) where
    agree : AgreeOn (needed_of_extents (sparse old)) (sparse old) (sparse new)
    agree = each-same old new grown (needed_of_extents (sparse old)) has

    -- what is needed of the extents tree was read
    pub has_extents-later : HasEach new (needed_of_extents (sparse new))
    has_extents-later = subst (λ ns. HasEach new ns) (sym (needed_of_extents-same (sparse old) (sparse new) mdb-stays agree))
        (each-grown old new grown (needed_of_extents (sparse old)) has)

    -- and behind a right one what is needed of the catalog, which lies in runs that were found
    pub has_catalog : (total : ℕ) (runs : List Run) (size : ℕ) → (is_extents_tree_right (sparse old) && has_catalog_file (sparse old)) ≡ true
        → LieAt total (catalog_blocks (sparse old)) runs → size ≡ (mdb_in (sparse old)).catalog_file_size
        → HasEach new (needed_of_tree cat_keys size (nodes_of new runs) (flat_map run_of runs)) → HasEach new (needed_of_catalog (sparse new))
    unfolding needed_of_catalog nodes_in
    has_catalog total runs size right lie size_is h =
        let none = no-fault (extents_check_fault (mdb_in (sparse old)) (sparse old)) (and_parts (is_extents_tree_right (sparse old)) (has_catalog_file (sparse old)) right).0 in
        let extents = x (sparse old) (sparse new) mdb-stays agree none in
        let nodes : nodes_of new runs ≡ catalog_nodes (sparse new) = ap (map (sparse new)) lie.numbers ∙ sym (catalog-map (sparse old) (sparse new) mdb-stays extents) in
        let many : size ≡ (mdb_in (sparse new)).catalog_file_size = size_is ∙ ap (λ (m : Mdb). m.catalog_file_size) (sym mdb-stays) in
        let numbers : flat_map run_of runs ≡ catalog_blocks (sparse new) = lie.numbers ∙ sym (catalog_blocks-same (sparse old) (sparse new) mdb-stays extents) in
        has-where new (is_extents_tree_right (sparse new) && has_catalog_file (sparse new))
        (needed_of_tree cat_keys (mdb_in (sparse new)).catalog_file_size (catalog_nodes (sparse new)) (catalog_blocks (sparse new)))
        (subst (λ ns. HasEach new ns) (λ i. needed_of_tree cat_keys (many i) (nodes i) (numbers i)) h)
    -- nothing of it behind a wrong one, or a wrong file

pub needs-no-catalog : (read : Numbered) → (is_extents_tree_right (sparse read) && has_catalog_file (sparse read)) ≡ false → HasEach read (needed_of_catalog (sparse read))
unfolding needed_of_catalog
needs-no-catalog read wrong =
    subst (λ (t : Bool). HasEach read (where_right t (needed_of_tree cat_keys (mdb_in (sparse read)).catalog_file_size (catalog_nodes (sparse read)) (catalog_blocks (sparse read)))))
    (sym wrong) tt

-- a tree's file has room for its bytes
pub has-room : (blocks : Blocks) (mdb : Mdb) (extents : List Extent) (size total : ℕ) (runs : List Run) → NoTreeFileFault → mdb.allocation_block_size % 512 ≡ 0
    → is_tree_file mdb extents size ≡ true → LieAt total (tree_blocks mdb extents size) runs → (512 ≤ size) × (size ≤ 512 * length (flat_map run_of runs))
has-room blocks mdb extents size total runs law whole right lie =
    let file = (law mdb extents size).0 right in
    let many : length (tree_nodes blocks mdb extents size) ≡ length (flat_map run_of runs) =
    ap (λ (ns : List (List ℕ)). length ns) (nodes-map blocks mdb extents size) ∙ length-map (tree_blocks mdb extents size) blocks ∙ sym (ap (λ (ns : List ℕ). length ns) lie.numbers) in
    let room = length-tree_nodes blocks mdb extents size whole file in
    let some = file.node in
    (some, omega (arith, room, many))

pub extents-room : (blocks : Blocks) (mdb : Mdb) → mdb ≡ mdb_in blocks → (total : ℕ) (runs : List Run) → NoTreeFileFault → mdb.allocation_block_size % 512 ≡ 0
    → has_extents_file blocks ≡ true → LieAt total (extents_blocks blocks) runs → (512 ≤ mdb.extents_file_size) × (mdb.extents_file_size ≤ 512 * length (flat_map run_of runs))
unfolding extents_blocks
extents-room blocks mdb is total runs law whole right lie =
    subst (λ (m : Mdb). (512 ≤ m.extents_file_size) × (m.extents_file_size ≤ 512 * length (flat_map run_of runs))) (sym is)
    (has-room blocks (mdb_in blocks) (mdb_in blocks).extents_file (mdb_in blocks).extents_file_size total runs law
    (subst (λ (m : Mdb). m.allocation_block_size % 512 ≡ 0) is whole) right lie)

pub catalog-room : (blocks : Blocks) (mdb : Mdb) → mdb ≡ mdb_in blocks → (total : ℕ) (runs : List Run) → NoTreeFileFault → mdb.allocation_block_size % 512 ≡ 0
    → has_catalog_file blocks ≡ true → LieAt total (catalog_blocks blocks) runs → (512 ≤ mdb.catalog_file_size) × (mdb.catalog_file_size ≤ 512 * length (flat_map run_of runs))
unfolding catalog_blocks
catalog-room blocks mdb is total runs law whole right lie =
    subst (λ (m : Mdb). (512 ≤ m.catalog_file_size) × (m.catalog_file_size ≤ 512 * length (flat_map run_of runs))) (sym is)
    (has-room blocks (mdb_in blocks) (catalog_extents blocks) (mdb_in blocks).catalog_file_size total runs law
    (subst (λ (m : Mdb). m.allocation_block_size % 512 ≡ 0) is whole) right lie)

module _ (old new : Numbered) (grown : HasGrown old new) (has_mdb : IsSome (changes old 2)) where
  pub lie-later : (total : ℕ) (runs same : List Run) → same ≡ runs → LieAt total (extents_blocks (sparse old)) runs → LieAt total (extents_blocks (sparse new)) same
  lie-later total runs same e lie =
      subst (λ rs. LieAt total (extents_blocks (sparse new)) rs) (sym e) (subst (λ ns. LieAt total ns runs) (sym (extents_blocks-stay old new grown has_mdb)) lie)

-- what was found by the blocks that were read, over zeros
pub lie-at : (Places : Numbered → List ℕ) (total many : ℕ) (read seen : Numbered) (runs same : List Run) → seen ≡ read → many ≡ total → same ≡ runs
    → LieAt many (Places seen) runs → LieAt total (Places read) same
lie-at Places total many read seen runs same e f h lie =
    subst (λ rs. LieAt total (Places read) rs) (sym h) (subst (λ t. LieAt t (Places read) runs) f (subst (λ r. LieAt many (Places r) runs) e lie))

-- ---- both trees

-- without an extents file nothing is needed
pub needs_none : (read : Numbered) → has_extents_file (sparse read) ≡ false → HasEach read (needed_of_trees (sparse read))
unfolding needed_of_trees
needs_none read e = subst (λ (t : Bool). HasEach read (where_right t (needed_of_extents (sparse read) ++ needed_of_catalog (sparse read)))) (sym e) tt

-- else what is needed of both trees
pub needs_both : (read : Numbered) → HasEach read (needed_of_extents (sparse read)) → HasEach read (needed_of_catalog (sparse read))
    → HasEach read (needed_of_trees (sparse read))
unfolding needed_of_trees
needs_both read h k =
    has-where read (has_extents_file (sparse read)) (needed_of_extents (sparse read) ++ needed_of_catalog (sparse read))
    (each-append (λ n. IsSome (changes read n)) (needed_of_extents (sparse read)) (needed_of_catalog (sparse read)) h k)

-- ---- runs that were read

-- runs among few blocks are among 2^32
pub within-all : (runs : List Run) (total : ℕ) → AreRunsWithin runs total → total < 4294967296 → AreRunsWithin runs 4294967296
within-all runs total h lt = record {
  within = λ i d lt'. let within = h.within i d lt' in omega (arith, within, lt);
  few = h.few;
  counted = h.counted;
}

pub reads-runs : (known : Option (List ℕ)) (total : ℕ) (old new : Numbered) (runs : List Run) → AreRunsWithin runs total → HasGrown old new → StaysOf known old new
    → ((t : ℕ) → AreRunsWithin runs t → AreWithin (changes old) t → AreWithin (changes new) t) → HasRead known total old new
reads-runs known total old new runs lie grown stays within = record { grown = grown; stays = stays; within = within total lie }

pub reads-range : (known : Option (List ℕ)) (total : ℕ) (old new : Numbered) (first count : ℕ) → first + count ≤ total → HasGrown old new → StaysOf known old new
    → ((t : ℕ) → first + count ≤ t → AreWithin (changes old) t → AreWithin (changes new) t) → HasRead known total old new
reads-range known total old new first count lie grown stays within = record { grown = grown; stays = stays; within = within total lie }

pub reads-block : (known : Option (List ℕ)) (total : ℕ) (old new : Numbered) (n : ℕ) → n < total → HasGrown old new → StaysOf known old new
    → ((t : ℕ) → n < t → AreWithin (changes old) t → AreWithin (changes new) t) → HasRead known total old new
reads-block known total old new n lie grown stays within = record { grown = grown; stays = stays; within = within total lie }

-- ---- all that is needed

-- behind a master directory block that was read: its copy, the bitmap and both trees, whether or not the block is right
pub needs_all : (total : ℕ) (start copied marked all : Numbered) (bitmap : List ℕ) → bitmap ≡ bitmap_blocks (mdb_in (sparse start)) → HasGrown start copied
    → HasGrown copied marked → HasGrown marked all → IsSome (changes start 2) → IsSome (changes copied (total - 2)) → HasEach marked bitmap
    → HasEach all (needed_of_trees (sparse all)) → HasEach all (needed_blocks total (sparse all))
unfolding needed_blocks
needs_all total start copied marked all bitmap is p q r two copy marks trees = (has-grown start all grown 2 two, by (is_mdb_right total (sparse all)))
  where
    grown : HasGrown start all
    grown = grown-on start marked all (grown-on start copied marked p q) r

    same : bitmap ≡ bitmap_blocks (mdb_in (sparse all))
    same = is ∙ ap (λ (m : Mdb). bitmap_blocks m) (sym (mdb-stays start all grown two))

    has : HasEach all ((total - 2) ∷ bitmap_blocks (mdb_in (sparse all)) ++ needed_of_trees (sparse all))
    has = (
      has-grown copied all (grown-on copied marked all q r) (total - 2) copy,
      each-append (λ n. IsSome (changes all n)) (bitmap_blocks (mdb_in (sparse all))) (needed_of_trees (sparse all))
          (subst (λ ns. HasEach all ns) same (each-grown marked all r bitmap marks)) trees,
    )

    by : (t : Bool) → HasEach all (where_right t ((total - 2) ∷ bitmap_blocks (mdb_in (sparse all)) ++ needed_of_trees (sparse all)))
    by true = has
    by false = tt

-- behind a wrong one nothing
pub needs_two : (total : ℕ) (read : Numbered) → is_some (mdb_fault total (mdb_in (sparse read))) ≡ true → IsSome (changes read 2)
    → HasEach read (needed_blocks total (sparse read))
unfolding needed_blocks
needs_two total read wrong two = (two, by (mdb_fault total (mdb_in (sparse read))) wrong)
  where
    by : (o : Option MountFault) → is_some o ≡ true
        → HasEach read (where_right (is_none o) ((total - 2) ∷ bitmap_blocks (mdb_in (sparse read)) ++ needed_of_trees (sparse read)))
    by None e = absurd (true≢false (sym e))
    by (Some fault) e = tt

-- all that was read
pub reads-start : (known : Option (List ℕ)) (total : ℕ) (start new : Numbered) → start ≡ [] → HasRead known total start new
    → IfSome known (λ bytes. IsOf bytes new) × AreWithin (changes new) total
reads-start known total start new e read = (
  of-start known new (subst (λ (s : Numbered). StaysOf known s new) e read.stays),
  read.within (subst (λ (s : Numbered). AreWithin (changes s) total) (sym e) (AreWithin-nothing total)),
)

-- ---- runs of which some blocks were read

pub reads-runs-itself : (known : Option (List ℕ)) (runs : List Run) (read : Numbered) → ReadsRuns known runs read read
reads-runs-itself known runs read = λ total h. reads-itself known total read

pub reads-runs-on : (known later : Option (List ℕ)) (runs : List Run) (old middle new : Numbered) → later ≡ known → ReadsRuns known runs old middle
    → ReadsRuns later runs middle new → ReadsRuns known runs old new
reads-runs-on known later runs old middle new e p q = λ total h. reads-on known later total old middle new e (p total h) (q total h)

-- some nodes more, if they are marked
pub marked-more : (old new : Numbered) → HasGrown old new → (runs : List Run) (bits : List ℕ) (n step : ℕ) → HasMarkedFrom new runs bits n step
    → ((k : ℕ) → k < n → bit_of bits k ≡ true → HasNode old runs k) → (k : ℕ) → k < n + step → bit_of bits k ≡ true → HasNode new runs k
marked-more old new grown runs bits n step here before k lt e = ⊎_elim
    (λ (low : k < n). has-grown old new grown (block_for runs k) (before k low e))
    (λ (high : n ≤ k).
    let place : n + (k - n) ≡ k = omega (arith, high) in
    subst (λ m. HasNode new runs m) place (here (k - n) (omega (arith, lt, high)) (subst (λ m. bit_of bits m ≡ true) (sym place) e)))
    (cases_lt k n)

-- of those that lie side by side, each was read
pub beside-read : (read : Numbered) (runs : List Run) (bits : List ℕ) (n count : ℕ) → LieBeside runs n count
    → HasEach read (range_with_len (block_for runs n) count) → HasMarkedFrom read runs bits n count
beside-read read runs bits n count beside each k lt e =
    subst (λ m. IsSome (changes read m)) (sym (beside k lt)) (range-at (λ m. IsSome (changes read m)) (block_for runs n) count each k lt)

-- the first lies beside itself
pub beside-first : (runs : List Run) (n k : ℕ) → k < n + 1 - n → block_for runs (n + k) ≡ block_for runs n + k
beside-first runs n k lt =
    let same : n + k ≡ n = omega (arith, lt) in
    let more : block_for runs n ≡ block_for runs n + k = omega (arith, lt) in
    ap (block_for runs) same ∙ more

-- one more that lies beside
pub beside-more : (runs : List Run) (n count : ℕ) → LieBeside runs n count → block_for runs (n + count) ≡ block_for runs n + count → LieBeside runs n (count + 1)
beside-more runs n count beside here k lt = ⊎_elim
    (λ (low : k < count). beside k low)
    (λ (high : count ≤ k).
    let same : count ≡ k = omega (arith, lt, high) in
    subst (λ m. block_for runs (n + m) ≡ block_for runs n + m) same here)
    (cases_lt k count)
