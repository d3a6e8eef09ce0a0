-- A file that went from a sound volume, in four steps: its bits of the bitmap, its records of the extents tree, its record of the catalog, the
-- counts. Together they are what the deletion of a file is.
use Rattle.std.proofs.Common.{◌≡◌, ◌⊎◌, inr, ⊎_elim, ℕ, ◌+◌, ◌-◌, ◌*◌, ◌/◌, ◌%◌, ◌<◌, ◌≤◌, false, List, [], ◌++◌, length, map, take, get_or, refl, sym, ◌∙◌, ap, subst, arith, true≢false}
use Rattle.std.specs.Prelude.{not}
use Rattle.std.specs.List.{flat_map}
use Rattle.std.proofs.lemmas.Bool.{cases_lt}
use Rattle.hfs_fields.specs.declared.mdb.Mdb.{Mdb}
use Rattle.hfs_fields.specs.declared.extent.Extent.{Extent}
use Rattle.hfs_fields.specs.Counts.{SameBesideCounts, with_counts}
use Rattle.hfs_fields.specs.Mdb.{mdb_of}
use Rattle.hfs_fields.specs.Each.{Each}
use Rattle.hfs_fields.proofs.ElementLemmas.{each-left, each-right, each-mono, each-both}
use Rattle.hfs_blocks.specs.declared.run.Run.{Run}
use Rattle.hfs_blocks.specs.Blocks.{run_of, nodes_in}
use Rattle.hfs_blocks.specs.Layers.{Changes, over}
use Rattle.hfs_blocks.proofs.LayerLemmas.{with_block, over-with_change}
use Rattle.hfs_btree.specs.Header.{header_in}
use Rattle.hfs_btree.specs.Sound.{IsOther, KeepsFrame}
use Rattle.hfs_btree.specs.Tree.{Store}
use Rattle.hfs_btree_checks.specs.Order.{index_keys}
use Rattle.hfs_btree_edits.proofs.ApartLemmas.{each-take}
use Rattle.hfs_btree_edits.specs.Files.{beside}
use Rattle.hfs_btree_edits.proofs.WrittenLemmas.{at_other, at_own}
use Rattle.hfs_space.specs.Bitmap.{bitmap_len, is_used, is_marked, clear_count}
use Rattle.hfs_space.proofs.CountingLemmas.{count_below-same, count_below-le}
use Rattle.hfs_space.specs.ForkLaws.{block_numbers}
use Rattle.hfs_space.specs.Owners.{owners}
use Rattle.hfs_space.specs.TreeFiles.{node_count, tree_blocks}
use Rattle.hfs_space.proofs.TreeFileLemmas.{nodes_in-tree_blocks}
use Rattle.hfs_record_edits.specs.Dropped.{HasDroppedOverflow}
use Rattle.hfs_record_edits.specs.Released.{AreAlone, HasReleased}
use Rattle.hfs_catalog.specs.Sound.{IsIndexKeyName}
use Rattle.hfs_catalog.specs.Tree.{cat_keys, IsCatalogTree, catalog_of}
use Rattle.hfs_check.specs.Parts.{Blocks, mdb_in, extents_nodes, extents_blocks, catalog_extents, catalog_nodes, catalog_blocks, catalog_in}
use Rattle.hfs_check.specs.Sound.{AreBlocksSound}
use Rattle.hfs_check.specs.Agree.{IsBeside, bitmap_blocks, node_blocks, changing_blocks}
use Rattle.hfs_record_edits.specs.Deletion.{EditsVolume, HasCleared}
use Rattle.hfs_record_edits.proofs.DropLaws.{DeletionLeavesFile}
use Rattle.hfs_call_patches.specs.CatalogPatch.{KeepsNamed}
use Rattle.hfs_call_patches.proofs.DeletingLemmas.{IsFileGone}
use Rattle.hfs_call_patches.specs.TreeFiles.{IsExtentsFile, IsCatalogFile}
use Rattle.hfs_call_patches.specs.Settings.{PutsCounts}
use Rattle.hfs_call_patches.proofs.EditedNodes.{first_only, behind_drop, same_on}
use Rattle.hfs_call_patches.proofs.FileParts.{outside_range, in_area, catalog_apart, extents_apart}
use Rattle.hfs_call_patches.proofs.IndexNames.{kept_names}
use Rattle.hfs_record_edits.proofs.CatalogEdits.{below_area}

module _ (total : ℕ) (old : Blocks) (h : AreBlocksSound total old) (extents catalog : List Run) (ext : IsExtentsFile extents total old) (cat : IsCatalogFile catalog total old) where
  abbrev mdb : Mdb
  mdb = mdb_in old

  abbrev E : List ℕ
  E = block_numbers mdb mdb.extents_file

  abbrev C : List ℕ
  C = block_numbers mdb (catalog_extents old)

  abbrev es : List ℕ
  es = flat_map run_of extents

  abbrev cs : List ℕ
  cs = flat_map run_of catalog

  es_is : es ≡ take (node_count mdb.extents_file_size) E
  unfolding extents_blocks tree_blocks
  es_is = ext.numbers

  cs_is : cs ≡ take (node_count mdb.catalog_file_size) C
  unfolding catalog_blocks tree_blocks
  cs_is = cat.numbers

  pub extents_old : nodes_in old extents ≡ extents_nodes old
  unfolding extents_nodes extents_blocks
  extents_old = nodes_in-tree_blocks old mdb mdb.extents_file mdb.extents_file_size extents ext.numbers

  catalog_old : nodes_in old catalog ≡ catalog_nodes old
  unfolding catalog_nodes catalog_blocks
  catalog_old = nodes_in-tree_blocks old mdb (catalog_extents old) mdb.catalog_file_size catalog cat.numbers

  -- nodes are the same where each block of their file is
  same_extents : (f g : Blocks) → Each (λ n. g n ≡ f n) E → nodes_in g extents ≡ nodes_in f extents
  unfolding nodes_in
  same_extents f g each = same_on f g es (subst (Each (λ n. g n ≡ f n)) (sym es_is) (each-take (λ n. g n ≡ f n) (node_count mdb.extents_file_size) E each))

  same_catalog : (f g : Blocks) → Each (λ n. g n ≡ f n) C → nodes_in g catalog ≡ nodes_in f catalog
  unfolding nodes_in
  same_catalog f g each = same_on f g cs (subst (Each (λ n. g n ≡ f n)) (sym cs_is) (each-take (λ n. g n ≡ f n) (node_count mdb.catalog_file_size) C each))

  low_bits : mdb.bitmap_start + bitmap_len mdb.allocation_blocks ≤ mdb.allocation_start
  low_bits = h.mdb.bitmap_before

  -- ---- the bitmap

  module _ (freed : List ℕ) (b1 : Blocks) (released : HasReleased mdb.bitmap_start mdb.allocation_blocks freed old b1) where
    behind_bits : (n : ℕ) → mdb.allocation_start ≤ n → b1 n ≡ old n
    behind_bits n le = released.beside n (inr (omega (arith, le, low_bits)))

    pub extents_first : nodes_in b1 extents ≡ extents_nodes old
    extents_first = same_extents old b1 (each-mono (λ n. mdb.allocation_start ≤ n) (λ n. b1 n ≡ old n) E behind_bits (in_area mdb mdb.extents_file)) ∙ extents_old

    -- ---- the extents tree

    module _ (id : ℕ) (b2 : Blocks) (dropped : HasDroppedOverflow id (extents_nodes old) (nodes_in b2 extents)) (side : beside es b2 ≡ beside es b1) where
      behind_tree : (k : ℕ) → (header_in (extents_nodes old)).nodes ≤ k → get_or (map b2 es) k [] ≡ get_or (map b1 es) k []
      unfolding nodes_in
      behind_tree k le =
          behind_drop (header_in (extents_nodes old)).nodes (extents_nodes old) (map b2 es) dropped.shrunk.behind k le
          ∙ ap (λ (s : Store). get_or s k []) (sym extents_first)

      only_extents : (n : ℕ) → Each (IsOther n) (take (header_in (extents_nodes old)).nodes E) → b2 n ≡ b1 n
      only_extents = first_only es E (node_count mdb.extents_file_size) (header_in (extents_nodes old)).nodes es_is b1 b2 side behind_tree

      not_extents : (n : ℕ) → Each (IsOther n) E → b2 n ≡ b1 n
      not_extents n other = only_extents n (each-take (IsOther n) (header_in (extents_nodes old)).nodes E other)

      pub catalog_second : nodes_in b2 catalog ≡ catalog_nodes old
      catalog_second =
          same_catalog old b2
          (each-mono _ (λ n. b2 n ≡ old n) C (λ n both. not_extents n both.1 ∙ behind_bits n both.0)
          (each-both (λ n. mdb.allocation_start ≤ n) (λ n. Each (IsOther n) E) C (in_area mdb (catalog_extents old)) (catalog_apart total old h)))
          ∙ catalog_old

      -- ---- the catalog

      module _ (b3 : Blocks) (keeps : KeepsNamed (catalog_nodes old) (nodes_in b3 catalog)) (cat_side : beside cs b3 ≡ beside cs b2) where
        behind_catalog : (k : ℕ) → (header_in (catalog_nodes old)).nodes ≤ k → get_or (map b3 cs) k [] ≡ get_or (map b2 cs) k []
        unfolding nodes_in
        behind_catalog k le = keeps.keeps.behind k le ∙ ap (λ (s : Store). get_or s k []) (sym catalog_second)

        only_catalog : (n : ℕ) → Each (IsOther n) (take (header_in (catalog_nodes old)).nodes C) → b3 n ≡ b2 n
        only_catalog = first_only cs C (node_count mdb.catalog_file_size) (header_in (catalog_nodes old)).nodes cs_is b2 b3 cat_side behind_catalog

        not_catalog : (n : ℕ) → Each (IsOther n) C → b3 n ≡ b2 n
        not_catalog n other = only_catalog n (each-take (IsOther n) (header_in (catalog_nodes old)).nodes C other)

        -- ---- the counts

        module _ (p q : Changes) (counts : Mdb) (is : over p old ≡ b3) (put : PutsCounts counts (old 2) p q) where
          abbrev b4 : Blocks
          b4 = over q old

          new_is : b4 ≡ with_block b3 2 put.block
          new_is = ap (λ (c : Changes). over c old) put.put ∙ over-with_change p old 2 put.block ∙ ap (λ (b : Blocks). with_block b 2 put.block) is

          new_two : b4 2 ≡ put.block
          new_two = ap (λ (f : Blocks). f 2) new_is ∙ at_own b3 2 put.block

          new_other : (n : ℕ) → (n ≡ 2 → ⊥) → b4 n ≡ b3 n
          new_other n other = ap (λ (f : Blocks). f n) new_is ∙ at_other b3 2 put.block n other

          -- ---- which blocks have changed

          others : (n : ℕ) → IsBeside old n → b4 n ≡ old n
          unfolding changing_blocks
          others n apart =
              let two : n ≡ 2 → ⊥ = λ same. apart.0 (sym same) in
              let trees = each-left (IsOther n) (bitmap_blocks mdb ++ node_blocks mdb mdb.extents_file (extents_nodes old)) (node_blocks mdb (catalog_extents old) (catalog_nodes old)) apart.1 in
              new_other n two
              ∙ only_catalog n (each-right (IsOther n) (bitmap_blocks mdb ++ node_blocks mdb mdb.extents_file (extents_nodes old)) (node_blocks mdb (catalog_extents old) (catalog_nodes old)) apart.1)
              ∙ only_extents n (each-right (IsOther n) (bitmap_blocks mdb) (node_blocks mdb mdb.extents_file (extents_nodes old)) trees)
              ∙ released.beside n (outside_range n mdb.bitmap_start (bitmap_len mdb.allocation_blocks) (each-left (IsOther n) (bitmap_blocks mdb) (node_blocks mdb mdb.extents_file (extents_nodes old)) trees))

          pub edits : EditsVolume counts old b4
          unfolding mdb_in
          edits = record { mdb = ap (λ (b : List ℕ). mdb_of (take 162 b)) new_two ∙ put.fields; others = others }

          bits_stay : (n : ℕ) → mdb.bitmap_start ≤ n → n < mdb.bitmap_start + bitmap_len mdb.allocation_blocks → b4 n ≡ b1 n
          bits_stay n from below =
              let low : n < mdb.allocation_start = omega (arith, below, low_bits) in
              let third = h.mdb.bitmap_behind in
              new_other n (λ (two : n ≡ 2). omega (arith, two, from, third))
              ∙ not_catalog n (below_area mdb (catalog_extents old) n low) ∙ not_extents n (below_area mdb mdb.extents_file n low)

          -- ---- the trees' nodes

          extents_last : nodes_in b4 extents ≡ nodes_in b2 extents
          extents_last =
              same_extents b2 b4
              (each-mono _ (λ n. b4 n ≡ b2 n) E
              (λ n both. new_other n (λ (two : n ≡ 2). let low = low_bits in let third = h.mdb.bitmap_behind in let from = both.0 in omega (arith, two, low, third, from)) ∙ not_catalog n both.1)
              (each-both (λ n. mdb.allocation_start ≤ n) (λ n. Each (IsOther n) C) E (in_area mdb mdb.extents_file) (extents_apart total old h)))

          catalog_last : nodes_in b4 catalog ≡ nodes_in b3 catalog
          catalog_last =
              same_catalog b3 b4
              (each-mono (λ n. mdb.allocation_start ≤ n) (λ n. b4 n ≡ b3 n) C
              (λ n from. new_other n (λ (two : n ≡ 2). let low = low_bits in let third = h.mdb.bitmap_behind in omega (arith, two, low, third, from)))
              (in_area mdb (catalog_extents old)))

          same_file : tree_blocks (with_counts counts mdb) mdb.extents_file mdb.extents_file_size ≡ tree_blocks mdb mdb.extents_file mdb.extents_file_size
          unfolding tree_blocks
          same_file = refl

          extents_file_blocks : (m : Mdb) → m ≡ with_counts counts mdb → tree_blocks m m.extents_file m.extents_file_size ≡ extents_blocks old
          unfolding extents_blocks
          extents_file_blocks m e = ap (λ (x : Mdb). tree_blocks x x.extents_file x.extents_file_size) e ∙ same_file

          extents_now : extents_nodes b4 ≡ nodes_in b2 extents
          unfolding extents_nodes extents_blocks
          extents_now =
              sym (nodes_in-tree_blocks b4 (mdb_in b4) (mdb_in b4).extents_file (mdb_in b4).extents_file_size extents (ext.numbers ∙ sym (extents_file_blocks (mdb_in b4) edits.mdb)))
              ∙ extents_last

          pub overflow : HasDroppedOverflow id (extents_nodes old) (extents_nodes b4)
          overflow = subst (HasDroppedOverflow id (extents_nodes old)) (sym extents_now) dropped

          module _ (law : DeletionLeavesFile) (given : 16 ≤ id) where
            catalog_file : catalog_extents b4 ≡ catalog_extents old
            catalog_file = law counts total id old b4 h edits given overflow

            catalog_file_blocks : (m : Mdb) (xs : List Extent) → m ≡ with_counts counts mdb → xs ≡ catalog_extents old → tree_blocks m xs m.catalog_file_size ≡ catalog_blocks old
            unfolding tree_blocks catalog_blocks
            catalog_file_blocks m xs a b = λ i. tree_blocks (a i) (b i) (a i).catalog_file_size

            catalog_now : catalog_nodes b4 ≡ nodes_in b3 catalog
            unfolding catalog_nodes catalog_blocks
            catalog_now =
                sym (nodes_in-tree_blocks b4 (mdb_in b4) (catalog_extents b4) (mdb_in b4).catalog_file_size catalog (cat.numbers ∙ sym (catalog_file_blocks (mdb_in b4) (catalog_extents b4) edits.mdb catalog_file)))
                ∙ catalog_last

            content : catalog_in b4 ≡ catalog_of (nodes_in b3 catalog)
            unfolding catalog_in
            content = ap catalog_of catalog_now

            -- ---- the bits

            bit_stays : (b : ℕ) → b < 4096 * bitmap_len mdb.allocation_blocks → is_used b4 mdb.bitmap_start b ≡ is_used b1 mdb.bitmap_start b
            bit_stays b low =
                let k : ℕ = mdb.bitmap_start + b / 4096 in
                let same : b4 k ≡ b1 k = bits_stay k (omega arith) (omega (arith, low)) in
                ap (λ (l : List ℕ). is_marked l (b % 4096)) same

            module _ (alone : AreAlone old mdb.bitmap_start freed) where
              far_bit : (b : ℕ) → 4096 * bitmap_len mdb.allocation_blocks ≤ b → is_used b1 mdb.bitmap_start b ≡ is_used old mdb.bitmap_start b
              far_bit b high =
                  let k : ℕ = mdb.bitmap_start + b / 4096 in
                  let same : b1 k ≡ old k = released.beside k (inr (omega (arith, high))) in
                  ap (λ (l : List ℕ). is_marked l (b % 4096)) same

              cleared_bit : (b : ℕ) → 0 < owners freed b → is_used b4 mdb.bitmap_start b ≡ false
              cleared_bit b some =
                  ⊎_elim
                  (λ (low : b < 4096 * bitmap_len mdb.allocation_blocks). bit_stays b low ∙ released.clear b some)
                  (λ (high : 4096 * bitmap_len mdb.allocation_blocks ≤ b). absurd (true≢false (sym (alone.used b some) ∙ sym (far_bit b high) ∙ released.clear b some)))
                  (cases_lt b (4096 * bitmap_len mdb.allocation_blocks))

              cleared : HasCleared freed old b4
              cleared = record { clear = cleared_bit; others = λ b low none. bit_stays b low ∙ released.others b none }

              clear_now : clear_count b4 mdb.bitmap_start mdb.allocation_blocks ≡ mdb.free_blocks + length freed
              clear_now =
                  count_below-same (λ k. not (is_used b4 mdb.bitmap_start k)) (λ k. not (is_used b1 mdb.bitmap_start k)) mdb.allocation_blocks (λ k lt. ap not (bit_stays k (omega (arith, lt))))
                  ∙ released.counted alone ∙ ap (λ (n : ℕ). n + length freed) (sym h.space.counted)

              pub file_gone : IsFileGone id freed counts (nodes_in b3 catalog) old b4
              unfolding catalog_in
              file_gone = record {
                edits = edits;
                beside = subst (SameBesideCounts (old 2)) (sym new_two) put.others;
                tree = subst IsCatalogTree (sym catalog_now) keeps.keeps.sound;
                frame = subst (KeepsFrame cat_keys (catalog_nodes old)) (sym catalog_now) keeps.keeps.frame;
                index = subst (λ (s : Store). Each IsIndexKeyName (index_keys cat_keys s)) (sym catalog_now) (kept_names (catalog_nodes old) (nodes_in b3 catalog) keeps h.records h.names.records h.names.index);
                overflow = overflow;
                cleared = cleared;
                free = clear_now;
                content = content;
              }

-- so many blocks are free afterwards as the volume has at most
pub free_fits : (total : ℕ) (old : Blocks) → AreBlocksSound total old → (freed : List ℕ) (b1 : Blocks) → HasReleased (mdb_in old).bitmap_start (mdb_in old).allocation_blocks freed old b1
    → AreAlone old (mdb_in old).bitmap_start freed → (mdb_in old).free_blocks + length freed ≤ (mdb_in old).allocation_blocks
free_fits total old h freed b1 released alone =
    let most = count_below-le (λ k. not (is_used b1 (mdb_in old).bitmap_start k)) (mdb_in old).allocation_blocks in
    omega (arith, most, released.counted alone, h.space.counted)
