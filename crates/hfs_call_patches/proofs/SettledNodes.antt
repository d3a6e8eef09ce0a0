-- What a volume's blocks are, over which a fork's bytes were laid, and then the bitmap, both trees and the counts were edited.
use Rattle.std.proofs.Common.{◌≡◌, ◌⊎◌, inr, ℕ, ◌+◌, ◌<◌, ◌≤◌, List, [], ◌∷◌, ◌++◌, map, take, get_or, refl, sym, ◌∙◌, ap, subst, arith}
use Rattle.std.specs.Prelude.{IsTrue}
use Rattle.std.specs.List.{flat_map}
use Rattle.hfs_fields.specs.declared.mdb.Mdb.{Mdb}
use Rattle.hfs_fields.specs.declared.extent.Extent.{Extent}
use Rattle.hfs_fields.specs.declared.file_record.FileRecord.{FileRecord}
use Rattle.hfs_fields.specs.Counts.{SameBesideCounts, with_counts}
use Rattle.hfs_fields.specs.Keys.{cat_cmp}
use Rattle.hfs_fields.specs.Mdb.{mdb_of}
use Rattle.hfs_fields.specs.Names.{is_item_name}
use Rattle.hfs_fields.specs.RecordForms.{IsFileRecordValue, file_record_bytes}
use Rattle.hfs_blocks.specs.declared.run.Run.{Run}
use Rattle.hfs_blocks.specs.Blocks.{run_of, nodes_in}
use Rattle.hfs_blocks.specs.Layers.{Changes, over}
use Rattle.hfs_blocks.proofs.LayerLemmas.{with_block, over-with_change}
use Rattle.hfs_fields.specs.Each.{Each}
use Rattle.hfs_fields.proofs.ElementLemmas.{each-left, each-right, each-mono, each-both}
use Rattle.hfs_btree.specs.Header.{header_in}
use Rattle.hfs_btree.specs.Sound.{IsOther, KeepsFrame}
use Rattle.hfs_btree.specs.Tree.{Store}
use Rattle.hfs_btree_checks.specs.Order.{index_keys}
use Rattle.hfs_btree_edits.proofs.ApartLemmas.{each-take}
use Rattle.hfs_btree_edits.specs.Edits.{with_replaced}
use Rattle.hfs_btree_edits.specs.Files.{beside}
use Rattle.hfs_btree_edits.proofs.WrittenLemmas.{at_other, at_own}
use Rattle.hfs_space.specs.Bitmap.{bitmap_len}
use Rattle.hfs_space.specs.Extents.{fork_extents}
use Rattle.hfs_space.specs.ForkLaws.{block_numbers}
use Rattle.hfs_space.specs.Owners.{catalog_fork, extents_in}
use Rattle.hfs_space.specs.TreeFiles.{node_count, tree_blocks}
use Rattle.hfs_space.specs.TreeKeys.{overflow_of}
use Rattle.hfs_space.proofs.TreeFileLemmas.{nodes_in-tree_blocks}
use Rattle.hfs_catalog.specs.Records.{Record}
use Rattle.hfs_catalog.specs.Sound.{IsIndexKeyName}
use Rattle.hfs_catalog.specs.Tree.{cat_keys, IsCatalogTree, catalog_of}
use Rattle.hfs_record_edits.specs.RecordEdits.{RecordSet}
use Rattle.hfs_check.specs.Parts.{Blocks, mdb_in, extents_nodes, extents_blocks, overflow_in, catalog_extents, catalog_nodes, catalog_blocks, catalog_in}
use Rattle.hfs_check.specs.Sound.{AreBlocksSound}
use Rattle.hfs_check.specs.Agree.{IsBeside, bitmap_blocks, node_blocks, changing_blocks}
use Rattle.hfs_record_edits.proofs.CatalogEdits.{below_area}
use Rattle.hfs_record_edits.specs.Whole.{EditsFork}
use Rattle.hfs_call_patches.specs.Edits.{SetsRecord}
use Rattle.hfs_call_patches.specs.CatalogPatch.{KeepsNamed}
use Rattle.hfs_call_patches.specs.Settings.{PutsCounts}
use Rattle.hfs_call_patches.specs.TreeFiles.{IsExtentsFile, IsCatalogFile}
use Rattle.hfs_call_patches.proofs.EditedNodes.{first_only, behind_drop, same_on}
use Rattle.hfs_call_patches.proofs.FileParts.{outside_range, in_area, catalog_apart, extents_apart}
use Rattle.hfs_call_patches.proofs.IndexNames.{kept_names}

-- F are the logical blocks over which bytes were laid: those of a fork, which are none of the trees' files; b0 is what came of that
module _ (total : ℕ) (old : Blocks) (h : AreBlocksSound total old) (extents catalog : List Run) (ext : IsExtentsFile extents total old) (cat : IsCatalogFile catalog total old)
    (F : List ℕ) (b0 : Blocks) (data_same : (n : ℕ) → Each (IsOther n) F → b0 n ≡ old n) (low : (n : ℕ) → n < (mdb_in old).allocation_start → Each (IsOther n) F)
    (apart_one : Each (λ n. Each (IsOther n) F) (block_numbers (mdb_in old) (mdb_in old).extents_file)) (apart_two : Each (λ n. Each (IsOther n) F) (block_numbers (mdb_in old) (catalog_extents old))) where
  abbrev mdb : Mdb
  mdb = mdb_in old

  abbrev E : List ℕ
  E = block_numbers mdb mdb.extents_file

  abbrev C : List ℕ
  C = block_numbers mdb (catalog_extents old)

  abbrev es : List ℕ
  es = flat_map run_of extents

  abbrev cs : List ℕ
  cs = flat_map run_of catalog

  es_is : es ≡ take (node_count mdb.extents_file_size) E
  unfolding extents_blocks tree_blocks
  es_is = ext.numbers

  cs_is : cs ≡ take (node_count mdb.catalog_file_size) C
  unfolding catalog_blocks tree_blocks
  cs_is = cat.numbers

  extents_old : nodes_in old extents ≡ extents_nodes old
  unfolding extents_nodes extents_blocks
  extents_old = nodes_in-tree_blocks old mdb mdb.extents_file mdb.extents_file_size extents ext.numbers

  catalog_old : nodes_in old catalog ≡ catalog_nodes old
  unfolding catalog_nodes catalog_blocks
  catalog_old = nodes_in-tree_blocks old mdb (catalog_extents old) mdb.catalog_file_size catalog cat.numbers

  -- nodes are the same where each block of their file is
  same_extents : (f g : Blocks) → Each (λ n. g n ≡ f n) E → nodes_in g extents ≡ nodes_in f extents
  unfolding nodes_in
  same_extents f g each = same_on f g es (subst (Each (λ n. g n ≡ f n)) (sym es_is) (each-take (λ n. g n ≡ f n) (node_count mdb.extents_file_size) E each))

  same_catalog : (f g : Blocks) → Each (λ n. g n ≡ f n) C → nodes_in g catalog ≡ nodes_in f catalog
  unfolding nodes_in
  same_catalog f g each = same_on f g cs (subst (Each (λ n. g n ≡ f n)) (sym cs_is) (each-take (λ n. g n ≡ f n) (node_count mdb.catalog_file_size) C each))

  low_bits : mdb.bitmap_start + bitmap_len mdb.allocation_blocks ≤ mdb.allocation_start
  low_bits = h.mdb.bitmap_before

  -- ---- the bitmap

  pub bits_before : (n : ℕ) → n < mdb.bitmap_start + bitmap_len mdb.allocation_blocks → b0 n ≡ old n
  bits_before n lt = let bits = low_bits in data_same n (low n (omega (arith, lt, bits)))

  module _ (b1 : Blocks) (bits_beside : (k : ℕ) → (k < mdb.bitmap_start) ⊎ (mdb.bitmap_start + bitmap_len mdb.allocation_blocks ≤ k) → b1 k ≡ b0 k) where
    behind_bits : (n : ℕ) → mdb.allocation_start ≤ n → b1 n ≡ b0 n
    behind_bits n le = let bits = low_bits in bits_beside n (inr (omega (arith, le, bits)))

    area_same : (file : List Extent) → Each (λ n. Each (IsOther n) F) (block_numbers mdb file) → Each (λ n. b1 n ≡ old n) (block_numbers mdb file)
    area_same file apart =
        each-mono _ (λ n. b1 n ≡ old n) (block_numbers mdb file) (λ n both. behind_bits n both.0 ∙ data_same n both.1)
        (each-both (λ n. mdb.allocation_start ≤ n) (λ n. Each (IsOther n) F) (block_numbers mdb file) (in_area mdb file) apart)

    pub extents_first : nodes_in b1 extents ≡ extents_nodes old
    extents_first = same_extents old b1 (area_same mdb.extents_file apart_one) ∙ extents_old

    -- ---- the extents tree

    module _ (file byte : ℕ) (b2 : Blocks) (edits : EditsFork file byte (nodes_in b1 extents) (nodes_in b2 extents)) (side : beside es b2 ≡ beside es b1) where
      edits_old : EditsFork file byte (extents_nodes old) (nodes_in b2 extents)
      edits_old = subst (λ (s : Store). EditsFork file byte s (nodes_in b2 extents)) extents_first edits

      behind_tree : (k : ℕ) → (header_in (extents_nodes old)).nodes ≤ k → get_or (map b2 es) k [] ≡ get_or (map b1 es) k []
      unfolding nodes_in
      behind_tree k le =
          behind_drop (header_in (extents_nodes old)).nodes (extents_nodes old) (map b2 es) edits_old.behind k le
          ∙ ap (λ (s : Store). get_or s k []) (sym extents_first)

      only_extents : (n : ℕ) → Each (IsOther n) (take (header_in (extents_nodes old)).nodes E) → b2 n ≡ b1 n
      only_extents = first_only es E (node_count mdb.extents_file_size) (header_in (extents_nodes old)).nodes es_is b1 b2 side behind_tree

      not_extents : (n : ℕ) → Each (IsOther n) E → b2 n ≡ b1 n
      not_extents n other = only_extents n (each-take (IsOther n) (header_in (extents_nodes old)).nodes E other)

      pub catalog_second : nodes_in b2 catalog ≡ catalog_nodes old
      catalog_second =
          same_catalog old b2
          (each-mono _ (λ n. b2 n ≡ old n) C (λ n both. not_extents n both.0 ∙ both.1)
          (each-both (λ n. Each (IsOther n) E) (λ n. b1 n ≡ old n) C (catalog_apart total old h) (area_same (catalog_extents old) apart_two)))
          ∙ catalog_old

      -- ---- the catalog

      module _ (r : Record) (body : List ℕ) (named : IsTrue (is_item_name r.0.name)) (b3 : Blocks) (set : RecordSet (r.0, body) (nodes_in b2 catalog) (nodes_in b3 catalog)) (cat_side : beside cs b3 ≡ beside cs b2) where
        keeps : KeepsNamed (catalog_nodes old) (nodes_in b3 catalog)
        keeps = subst (λ (s : Store). KeepsNamed s (nodes_in b3 catalog)) catalog_second (record { given = r.0 ∷ []; keeps = set.keeps; named = (inr named, tt) })

        behind_catalog : (k : ℕ) → (header_in (catalog_nodes old)).nodes ≤ k → get_or (map b3 cs) k [] ≡ get_or (map b2 cs) k []
        unfolding nodes_in
        behind_catalog k le = keeps.keeps.behind k le ∙ ap (λ (s : Store). get_or s k []) (sym catalog_second)

        only_catalog : (n : ℕ) → Each (IsOther n) (take (header_in (catalog_nodes old)).nodes C) → b3 n ≡ b2 n
        only_catalog = first_only cs C (node_count mdb.catalog_file_size) (header_in (catalog_nodes old)).nodes cs_is b2 b3 cat_side behind_catalog

        not_catalog : (n : ℕ) → Each (IsOther n) C → b3 n ≡ b2 n
        not_catalog n other = only_catalog n (each-take (IsOther n) (header_in (catalog_nodes old)).nodes C other)

        -- ---- the counts: z is what lies below the patch

        module _ (z : Blocks) (p q : Changes) (counts : Mdb) (over_is : over p z ≡ b3) (put : PutsCounts counts (old 2) p q) where
          abbrev b4 : Blocks
          b4 = over q z

          new_is : b4 ≡ with_block b3 2 put.block
          new_is = ap (λ (c : Changes). over c z) put.put ∙ over-with_change p z 2 put.block ∙ ap (λ (b : Blocks). with_block b 2 put.block) over_is

          new_two : b4 2 ≡ put.block
          new_two = ap (λ (f : Blocks). f 2) new_is ∙ at_own b3 2 put.block

          new_other : (n : ℕ) → (n ≡ 2 → ⊥) → b4 n ≡ b3 n
          new_other n other = ap (λ (f : Blocks). f n) new_is ∙ at_other b3 2 put.block n other

          -- ---- which blocks have changed

          pub others : (n : ℕ) → IsBeside old n → b4 n ≡ b0 n
          unfolding changing_blocks
          others n apart =
              let two : n ≡ 2 → ⊥ = λ same. apart.0 (sym same) in
              let trees = each-left (IsOther n) (bitmap_blocks mdb ++ node_blocks mdb mdb.extents_file (extents_nodes old)) (node_blocks mdb (catalog_extents old) (catalog_nodes old)) apart.1 in
              new_other n two
              ∙ only_catalog n (each-right (IsOther n) (bitmap_blocks mdb ++ node_blocks mdb mdb.extents_file (extents_nodes old)) (node_blocks mdb (catalog_extents old) (catalog_nodes old)) apart.1)
              ∙ only_extents n (each-right (IsOther n) (bitmap_blocks mdb) (node_blocks mdb mdb.extents_file (extents_nodes old)) trees)
              ∙ bits_beside n (outside_range n mdb.bitmap_start (bitmap_len mdb.allocation_blocks) (each-left (IsOther n) (bitmap_blocks mdb) (node_blocks mdb mdb.extents_file (extents_nodes old)) trees))

          pub directory : mdb_in b4 ≡ with_counts counts mdb
          unfolding mdb_in
          directory = ap (λ (b : List ℕ). mdb_of (take 162 b)) new_two ∙ put.fields

          pub counts_beside : SameBesideCounts (old 2) (b4 2)
          counts_beside = subst (SameBesideCounts (old 2)) (sym new_two) put.others

          pub bits_stay : (n : ℕ) → mdb.bitmap_start ≤ n → n < mdb.bitmap_start + bitmap_len mdb.allocation_blocks → b4 n ≡ b1 n
          bits_stay n from below =
              let bits = low_bits in
              let under : n < mdb.allocation_start = omega (arith, below, bits) in
              let third = h.mdb.bitmap_behind in
              new_other n (λ (two : n ≡ 2). omega (arith, two, from, third))
              ∙ not_catalog n (below_area mdb (catalog_extents old) n under) ∙ not_extents n (below_area mdb mdb.extents_file n under)

          -- ---- the trees' nodes

          not_two : (n : ℕ) → mdb.allocation_start ≤ n → n ≡ 2 → ⊥
          not_two n from two = let bits = low_bits in let third = h.mdb.bitmap_behind in omega (arith, two, bits, third, from)

          extents_last : nodes_in b4 extents ≡ nodes_in b2 extents
          extents_last =
              same_extents b2 b4
              (each-mono _ (λ n. b4 n ≡ b2 n) E (λ n both. new_other n (not_two n both.0) ∙ not_catalog n both.1)
              (each-both (λ n. mdb.allocation_start ≤ n) (λ n. Each (IsOther n) C) E (in_area mdb mdb.extents_file) (extents_apart total old h)))

          catalog_last : nodes_in b4 catalog ≡ nodes_in b3 catalog
          catalog_last =
              same_catalog b3 b4
              (each-mono (λ n. mdb.allocation_start ≤ n) (λ n. b4 n ≡ b3 n) C (λ n from. new_other n (not_two n from)) (in_area mdb (catalog_extents old)))

          same_file : tree_blocks (with_counts counts mdb) mdb.extents_file mdb.extents_file_size ≡ tree_blocks mdb mdb.extents_file mdb.extents_file_size
          unfolding tree_blocks
          same_file = refl

          extents_file_blocks : (m : Mdb) → m ≡ with_counts counts mdb → tree_blocks m m.extents_file m.extents_file_size ≡ extents_blocks old
          unfolding extents_blocks
          extents_file_blocks m e = ap (λ (x : Mdb). tree_blocks x x.extents_file x.extents_file_size) e ∙ same_file

          pub extents_now : extents_nodes b4 ≡ nodes_in b2 extents
          unfolding extents_nodes extents_blocks
          extents_now =
              sym (nodes_in-tree_blocks b4 (mdb_in b4) (mdb_in b4).extents_file (mdb_in b4).extents_file_size extents (ext.numbers ∙ sym (extents_file_blocks (mdb_in b4) directory)))
              ∙ extents_last

          module _ (given : 16 ≤ file) where
            overflow_now : overflow_in b4 ≡ overflow_of (nodes_in b2 extents)
            unfolding overflow_in
            overflow_now = ap overflow_of extents_now

            file_now : (m : Mdb) → m ≡ with_counts counts mdb → extents_in (overflow_in b4) (catalog_fork m) ≡ extents_in (overflow_of (extents_nodes old)) (catalog_fork mdb)
            unfolding catalog_fork
            file_now m e =
                (λ i. fork_extents (overflow_now i) 4 0 (e i).catalog_file)
                ∙ edits_old.others 4 0 mdb.catalog_file (λ same k. omega (arith, same, given))

            catalog_file : catalog_extents b4 ≡ catalog_extents old
            unfolding catalog_extents overflow_in
            catalog_file = file_now (mdb_in b4) directory

            catalog_file_blocks : (m : Mdb) (xs : List Extent) → m ≡ with_counts counts mdb → xs ≡ catalog_extents old → tree_blocks m xs m.catalog_file_size ≡ catalog_blocks old
            unfolding tree_blocks catalog_blocks
            catalog_file_blocks m xs a b = λ i. tree_blocks (a i) (b i) (a i).catalog_file_size

            catalog_now : catalog_nodes b4 ≡ nodes_in b3 catalog
            unfolding catalog_nodes catalog_blocks
            catalog_now =
                sym (nodes_in-tree_blocks b4 (mdb_in b4) (catalog_extents b4) (mdb_in b4).catalog_file_size catalog (cat.numbers ∙ sym (catalog_file_blocks (mdb_in b4) (catalog_extents b4) directory catalog_file)))
                ∙ catalog_last

            content : catalog_in b4 ≡ with_replaced cat_cmp r.0 body (catalog_in old)
            unfolding catalog_in
            content = ap catalog_of catalog_now ∙ set.content ∙ ap (λ (s : Store). with_replaced cat_cmp r.0 body (catalog_of s)) catalog_second

            -- the record stands in the catalog
            pub sets_record : (f : FileRecord) → body ≡ file_record_bytes f → IsFileRecordValue f → SetsRecord r f old b4
            unfolding catalog_in
            sets_record f body_is value = record {
              value = value;
              content = content ∙ ap (λ (b : List ℕ). with_replaced cat_cmp r.0 b (catalog_in old)) body_is;
              tree = subst IsCatalogTree (sym catalog_now) keeps.keeps.sound;
              frame = subst (KeepsFrame cat_keys (catalog_nodes old)) (sym catalog_now) keeps.keeps.frame;
              index = subst (λ (s : Store). Each IsIndexKeyName (index_keys cat_keys s)) (sym catalog_now) (kept_names (catalog_nodes old) (nodes_in b3 catalog) keeps h.records h.names.records h.names.index);
            }
