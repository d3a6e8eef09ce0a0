-- Of a sound volume whose catalog is edited stay the extents tree, the catalog's extents, the bitmap, and the bytes of all forks.
use Rattle.std.proofs.Common.{◌≡◌, ⊎_elim, ℕ, zero, suc, ◌+◌, ◌*◌, ◌/◌, ◌%◌, ◌<◌, ◌≤◌, Bool, true, cond, ◌||◌, List, [], ◌∷◌, ◌++◌, take, refl, sym, ◌∙◌, ap, arith}
use Rattle.std.specs.List.{flat_map, sum_by}
use Rattle.std.proofs.lemmas.List.Sums.{sum_by-cons}
use Rattle.hfs_fields.specs.declared.mdb.Mdb.{Mdb}
use Rattle.hfs_fields.specs.declared.extent.Extent.{Extent}
use Rattle.hfs_fields.specs.declared.file_record.FileRecord.{FileRecord}
use Rattle.hfs_fields.specs.Counts.{with_counts}
use Rattle.hfs_fields.specs.Records.{is_file, file_record_of}
use Rattle.hfs_fields.specs.Each.{Each}
use Rattle.hfs_fields.specs.Members.{In}
use Rattle.hfs_btree.specs.Sound.{IsOther}
use Rattle.hfs_btree_edits.proofs.ApartLemmas.{each-take}
use Rattle.hfs_space.proofs.OwnedOnce.{distinct-once}
use Rattle.hfs_space.proofs.OwnedLemmas.{blocks-append}
use Rattle.hfs_space.specs.Bitmap.{bitmap_len, is_used, is_marked, count_below, clear_count}
use Rattle.hfs_space.proofs.CountingLemmas.{count_below-same}
use Rattle.hfs_blocks.specs.Blocks.{run_of}
use Rattle.hfs_fields.proofs.ElementLemmas.{each-append}
use Rattle.std.specs.Prelude.{not}
use Rattle.hfs_space.specs.Extents.{Overflow, extent_blocks, fork_extents}
use Rattle.hfs_space.specs.Forks.{blocks_each, run_in, fork_bytes}
use Rattle.hfs_space.specs.ForkLaws.{block_numbers}
use Rattle.hfs_space.specs.Owners.{forks_of_file, catalog_fork, extents_in, bad_extents, owners}
use Rattle.hfs_space.specs.TreeKeys.{overflow_of}
use Rattle.hfs_space.specs.TreeFiles.{tree_nodes}
use Rattle.hfs_catalog.specs.Records.{Record}
use Rattle.hfs_check.specs.Parts.{Blocks, mdb_in, extents_nodes, overflow_in, catalog_extents, catalog_in, owned_in}
use Rattle.hfs_check.specs.Sound.{AreBlocksSound}
use Rattle.hfs_check.specs.VolumeOf.{bytes_in, contents_in}
use Rattle.hfs_record_edits.proofs.ChangesLaws.{KeepsContents}
use Rattle.hfs_record_edits.specs.OnBlocks.{EditsCatalog}
use Rattle.hfs_catalog.proofs.Held.{with_id}
use Rattle.hfs_record_edits.proofs.Space.{record_has, owners_sum}
use Rattle.hfs_record_edits.proofs.Frames.{each_range, block_in, beside_file, same_bytes, same_nodes}

pub part_of_sum : {X : Type 0} (f : X → ℕ) (xs : List X) (x : X) → In x xs → f x ≤ sum_by f xs
part_of_sum f [] x there = absurd there
part_of_sum f (y ∷ ys) x there = ⊎_elim
    (λ (here : y ≡ x). let same : f y ≡ f x = ap f here in omega (arith, same, sum_by-cons f y ys))
    (λ (later : In x ys). omega (arith, part_of_sum f ys x later, sum_by-cons f y ys))
    there

pub below_area : (mdb : Mdb) (file : List Extent) (k : ℕ) → k < mdb.allocation_start → Each (IsOther k) (block_numbers mdb file)
below_area mdb [] k low = tt
below_area mdb (e ∷ file) k low =
    each-append (IsOther k) (run_of (run_in mdb e)) (block_numbers mdb file)
    (each_range (IsOther k) (run_in mdb e).first (run_in mdb e).count (λ j lt same. omega (arith, same, low)))
    (below_area mdb file k low)

-- the same bits are clear
count_below_same : {p q : ℕ → Bool} (n : ℕ) → ((k : ℕ) → k < n → p k ≡ q k) → count_below p n ≡ count_below q n
count_below_same {p} {q} n same = count_below-same p q n same

module _ (counts : Mdb) (total : ℕ) (old new : Blocks) (h : AreBlocksSound total old) (edit : EditsCatalog counts old new) where
  abbrev mdb : Mdb
  mdb = mdb_in old

  abbrev overflow : Overflow
  overflow = overflow_in old

  abbrev file : List Extent
  file = catalog_extents old

  -- ---- the logical blocks of other allocation blocks

  behind : (a j : ℕ) → 3 ≤ block_in mdb a j
  behind a j = omega (arith, h.mdb.bitmap_behind, h.mdb.bitmap_before)

  beside : (a j : ℕ) → j < blocks_each mdb → owners (extent_blocks file) a ≡ 0 → new (block_in mdb a j) ≡ old (block_in mdb a j)
  beside a j low none =
      edit.others (block_in mdb a j) (λ (two : block_in mdb a j ≡ 2). let b = behind a j in omega (arith, b, two)) (each-take _ _ (block_numbers mdb file) (beside_file mdb file a j low none))

  -- ---- who owns a block owns it alone

  once : (a : ℕ) → owners (extent_blocks file) a + (owners (extent_blocks mdb.extents_file) a + owners (extent_blocks (bad_extents overflow)) a) + sum_by (record_has mdb overflow a) (catalog_in old) ≤ 1
  unfolding owned_in catalog_extents
  once a = omega (arith, distinct-once (owned_in old) h.space.once a, owners_sum mdb overflow a (catalog_in old))

  extents_apart : (a : ℕ) → 0 < owners (extent_blocks mdb.extents_file) a → owners (extent_blocks file) a ≡ 0
  extents_apart a some = let o = once a in omega (arith, o, some)

  -- ---- the extents tree

  same_extents_nodes : (m : Mdb) → m ≡ with_counts counts mdb → tree_nodes new m m.extents_file m.extents_file_size ≡ tree_nodes old mdb mdb.extents_file mdb.extents_file_size
  unfolding tree_nodes
  same_extents_nodes m e =
      ap (λ (x : Mdb). tree_nodes new x x.extents_file x.extents_file_size) e
      ∙ same_nodes old new mdb file beside mdb.extents_file extents_apart mdb.extents_file_size

  pub extents_stay : extents_nodes new ≡ extents_nodes old
  unfolding extents_nodes
  extents_stay = same_extents_nodes (mdb_in new) edit.mdb

  pub overflow_stays : overflow_in new ≡ overflow_in old
  unfolding overflow_in
  overflow_stays = ap overflow_of extents_stay

  same_catalog_fork : (m : Mdb) → m ≡ with_counts counts mdb → catalog_fork m ≡ catalog_fork mdb
  unfolding catalog_fork
  same_catalog_fork m e = ap catalog_fork e

  pub catalog_extents_stay : catalog_extents new ≡ catalog_extents old
  unfolding catalog_extents
  catalog_extents_stay = λ i. extents_in (overflow_stays i) (same_catalog_fork (mdb_in new) edit.mdb i)

  -- ---- the bitmap

  pub bitmap_stays : (n : ℕ) → n < 4096 * bitmap_len mdb.allocation_blocks → is_used new mdb.bitmap_start n ≡ is_used old mdb.bitmap_start n
  bitmap_stays n within =
      let k : ℕ = mdb.bitmap_start + n / 4096 in
      let low : k < mdb.allocation_start = omega (arith, within, h.mdb.bitmap_before) in
      let same : new k ≡ old k = edit.others k (λ (two : k ≡ 2). omega (arith, two, h.mdb.bitmap_behind)) (each-take _ _ (block_numbers mdb file) (below_area mdb file k low)) in
      ap (λ (b : List ℕ). is_marked b (n % 4096)) same

  pub clear_stays : clear_count new mdb.bitmap_start mdb.allocation_blocks ≡ clear_count old mdb.bitmap_start mdb.allocation_blocks
  clear_stays = count_below_same mdb.allocation_blocks (λ k lt. ap not (bitmap_stays k (omega arith)))

  -- ---- forks

  fork_same : (k fork len : ℕ) (first : List Extent) → ((a : ℕ) → 0 < owners (extent_blocks (fork_extents overflow k fork first)) a → owners (extent_blocks file) a ≡ 0)
      → (m : Mdb) → m ≡ with_counts counts mdb → fork_bytes new m (fork_extents (overflow_in new) k fork first) len ≡ fork_bytes old mdb (fork_extents overflow k fork first) len
  unfolding fork_bytes
  fork_same k fork len first apart m e =
      (λ i. fork_bytes new (e i) (fork_extents (overflow_stays i) k fork first) len)
      ∙ same_bytes old new mdb file beside (fork_extents overflow k fork first) apart len

  module _ (r : Record) (there : In r (catalog_in old)) (is : is_file r.1 ≡ true) where
    abbrev f : FileRecord
    f = file_record_of r.1

    both_have : (a : ℕ) → owners (extent_blocks (fork_extents overflow f.id 0 f.«data».extents)) a + owners (extent_blocks (fork_extents overflow f.id 255 f.resource.extents)) a ≤ sum_by (record_has mdb overflow a) (catalog_in old)
    unfolding forks_of_file
    both_have a =
        let data_extents = fork_extents overflow f.id 0 f.«data».extents in
        let rest_extents = fork_extents overflow f.id 255 f.resource.extents in
        let forks : record_has mdb overflow a r ≡ owners (extent_blocks (data_extents ++ (rest_extents ++ []))) a = ap (λ (b : Bool). owners (extent_blocks (flat_map (extents_in overflow) (cond b (forks_of_file f) []))) a) is in
        let none : owners (extent_blocks []) a ≡ 0 = refl in
        omega (arith, part_of_sum (record_has mdb overflow a) (catalog_in old) r there, forks, blocks-append data_extents (rest_extents ++ []) a, blocks-append rest_extents [] a, none)

    pub contents_stay : contents_in new f ≡ contents_in old f
    unfolding contents_in bytes_in
    contents_stay =
        let one = fork_same f.id 0 f.«data».length f.«data».extents (λ a some. let o = once a in let b = both_have a in omega (arith, o, b, some)) (mdb_in new) edit.mdb in
        let two = fork_same f.id 255 f.resource.length f.resource.extents (λ a some. let o = once a in let b = both_have a in omega (arith, o, b, some)) (mdb_in new) edit.mdb in
        λ i. (one i, two i)

  -- the forks of each file have the bytes that they had
  pub keeps_contents : KeepsContents (contents_in old) (contents_in new) (catalog_in old)
  keeps_contents k r is other =
      let there = with_id (catalog_in old) k r is in
      contents_stay r there.0 (sym (ap (λ (b : Bool). b || is_file r.1) other) ∙ there.1)
