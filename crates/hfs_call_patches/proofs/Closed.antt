-- A patch of the catalog's nodes, opened, and closed with the counts put into it, on the blocks of the volume.
use Rattle.std.proofs.Common.{◌≡◌, ℕ, ◌<◌, ◌≤◌, Bool, true, false, cond, List, [], length, map, take, get_or, refl, sym, ap, ◌∙◌, subst, arith, Option, None, unwrap_or}
use Rattle.std.specs.List.{flat_map}
use Rattle.hfs_fields.specs.declared.mdb.Mdb.{Mdb}
use Rattle.hfs_fields.specs.declared.extent.Extent.{Extent}
use Rattle.hfs_fields.specs.Counts.{SameBesideCounts, with_counts}
use Rattle.hfs_fields.specs.Mdb.{mdb_of}
use Rattle.hfs_blocks.specs.declared.run.Run.{Run}
use Rattle.hfs_blocks.specs.Blocks.{run_of, nodes_in}
use Rattle.hfs_blocks.specs.Layers.{Changes, over}
use Rattle.hfs_blocks.proofs.LayerLemmas.{with_block, over-with_change}
use Rattle.hfs_btree.specs.Header.{header_in}
use Rattle.hfs_btree.specs.Sound.{IsOther, KeepsFrame}
use Rattle.hfs_btree.specs.Tree.{Store}
use Rattle.hfs_btree_checks.specs.Order.{index_keys}
use Rattle.hfs_btree_edits.proofs.ApartLemmas.{each-take}
use Rattle.hfs_btree_edits.specs.Files.{is_one_of, beside, AreWithin}
use Rattle.hfs_btree_edits.proofs.WrittenLemmas.{at_other, at_own, untouched, put_within}
use Rattle.hfs_fields.specs.Each.{Each}
use Rattle.hfs_space.specs.ForkLaws.{block_numbers}
use Rattle.hfs_space.specs.TreeFiles.{node_count, tree_blocks}
use Rattle.hfs_space.proofs.TreeFileLemmas.{nodes_in-tree_blocks}
use Rattle.hfs_catalog.specs.Sound.{IsIndexKeyName}
use Rattle.hfs_catalog.specs.Tree.{cat_keys, IsCatalogTree, catalog_of}
use Rattle.hfs_check.specs.Parts.{Blocks, mdb_in, catalog_extents, catalog_nodes, catalog_blocks, catalog_in}
use Rattle.hfs_check.specs.Sound.{AreBlocksSound}
use Rattle.hfs_check.specs.Agree.{node_blocks}
use Rattle.hfs_record_edits.proofs.LawTypes.{CatalogFileStays}
use Rattle.hfs_record_edits.specs.OnBlocks.{EditsCatalog}
use Rattle.hfs_call_patches.specs.CatalogPatch.{KeepsNamed, HasCatalog}
use Rattle.hfs_call_patches.specs.TreeFiles.{IsCatalogFile}
use Rattle.hfs_call_patches.specs.Settings.{PutsCounts}
use Rattle.hfs_call_patches.proofs.IndexNames.{kept_names}
use Rattle.hfs_call_patches.proofs.Placed.{IsAt, place_of, behind_first, at_place}
use Rattle.hfs_record_edits.proofs.CatalogEdits.{below_area}

-- ---- the catalog's nodes through an empty patch

module _ (old : Blocks) (total : ℕ) (runs : List Run) (none : Changes) (empty : (n : ℕ) → none n ≡ None) (at : IsCatalogFile runs total old) where
  none_over : over none old ≡ old
  none_over i n = ap (λ (o : Option (List ℕ)). unwrap_or o (old n)) (empty n) i

  nodes_old : nodes_in old runs ≡ catalog_nodes old
  unfolding catalog_nodes catalog_blocks
  nodes_old = nodes_in-tree_blocks old (mdb_in old) (catalog_extents old) (mdb_in old).catalog_file_size runs at.numbers

  pub opened_nodes : nodes_in (over none old) runs ≡ catalog_nodes old
  opened_nodes = ap (λ (f : Blocks). nodes_in f runs) none_over ∙ nodes_old

  pub opened_beside : beside (flat_map run_of runs) (over none old) ≡ beside (flat_map run_of runs) old
  opened_beside = ap (beside (flat_map run_of runs)) none_over

-- ---- the blocks of x are those below; y and qs are what the edit of the tree left of them and of the runs

module _ {X : Type 0} (blocks : X → Blocks) (totals : X → ℕ) (x y : X) (runs qs : List Run) (p q : Changes) (counts : Mdb)
    (h : AreBlocksSound (totals x) (blocks x)) (at : IsCatalogFile runs (totals x) (blocks x)) (stays : CatalogFileStays)
    (kept : ◌≡◌ {A = X × List Run × (ℕ → List ℕ)} (y, qs, beside (flat_map run_of qs) (over p (blocks y))) (x, runs, beside (flat_map run_of runs) (blocks x)))
    (keeps : KeepsNamed (catalog_nodes (blocks x)) (nodes_in (over p (blocks y)) qs))
    (put : PutsCounts counts (blocks x 2) p q) where
  abbrev old : Blocks
  old = blocks x

  abbrev mid : Blocks
  mid = over p old

  abbrev new : Blocks
  new = over q old

  abbrev ns : List ℕ
  ns = flat_map run_of runs

  old_is : nodes_in old runs ≡ catalog_nodes old
  unfolding catalog_nodes catalog_blocks
  old_is = nodes_in-tree_blocks old (mdb_in old) (catalog_extents old) (mdb_in old).catalog_file_size runs at.numbers

  mid_is : nodes_in (over p (blocks y)) qs ≡ nodes_in mid runs
  mid_is i = nodes_in (over p (blocks (kept i).0)) (kept i).1

  named : KeepsNamed (catalog_nodes old) (nodes_in mid runs)
  named = subst (KeepsNamed (catalog_nodes old)) mid_is keeps

  side : beside ns mid ≡ beside ns old
  side = sym (λ i. beside (flat_map run_of (kept i).1) (over p (blocks (kept i).0))) ∙ (λ i. (kept i).2)

  new_is : new ≡ with_block mid 2 put.block
  new_is = ap (λ (c : Changes). over c old) put.put ∙ over-with_change p old 2 put.block

  new_two : new 2 ≡ put.block
  new_two = ap (λ (f : Blocks). f 2) new_is ∙ at_own mid 2 put.block

  new_other : (n : ℕ) → (n ≡ 2 → ⊥) → new n ≡ mid n
  new_other n other = ap (λ (f : Blocks). f n) new_is ∙ at_other mid 2 put.block n other

  numbers_are : ns ≡ take (node_count (mdb_in old).catalog_file_size) (block_numbers (mdb_in old) (catalog_extents old))
  unfolding catalog_blocks tree_blocks
  numbers_are = at.numbers

  two_apart : Each (IsOther 2) ns
  two_apart = subst (Each (IsOther 2)) (sym numbers_are) (each-take _ _ (block_numbers (mdb_in old) (catalog_extents old)) (below_area (mdb_in old) (catalog_extents old) 2 (omega (arith, h.mdb.bitmap_behind, h.mdb.bitmap_before))))

  nodes_new : nodes_in new runs ≡ nodes_in mid runs
  unfolding nodes_in
  nodes_new = ap (λ (f : ℕ → List ℕ). map f ns) new_is ∙ untouched mid 2 put.block ns two_apart

  -- ---- what was written

  behind_same : (k : ℕ) → (header_in (catalog_nodes old)).nodes ≤ k → get_or (map mid ns) k [] ≡ get_or (map old ns) k []
  unfolding nodes_in
  behind_same k le = named.keeps.behind k le ∙ sym (ap (λ (s : Store). get_or s k []) old_is)

  mid_same : (n : ℕ) → Each (IsOther n) (node_blocks (mdb_in old) (catalog_extents old) (catalog_nodes old)) → mid n ≡ old n
  mid_same n apart = elim (is_one_of ns n) as (λ (t : Bool). is_one_of ns n ≡ t → cond t [] (mid n) ≡ cond t [] (old n) → mid n ≡ old n) [
    | false ↦ λ e same. same
    | true ↦ λ e same.
        let found = place_of ns n e in
        let m = (header_in (catalog_nodes old)).nodes in
        let taken = subst (λ (l : List ℕ). IsAt l n) numbers_are found in
        let there : get_or ns taken.place 0 ≡ n = ap (λ (l : List ℕ). get_or l taken.place 0) numbers_are ∙ taken.is in
        let lt : taken.place < length ns = subst (λ (l : List ℕ). taken.place < length l) (sym numbers_are) taken.within in
        let le : m ≤ taken.place = behind_first n (block_numbers (mdb_in old) (catalog_extents old)) m (node_count (mdb_in old).catalog_file_size) taken.place apart taken.within taken.is in
        sym (ap mid there) ∙ sym (at_place mid ns taken.place lt) ∙ behind_same taken.place le ∙ at_place old ns taken.place lt ∙ ap old there
  ] refl (ap (λ (f : Blocks). f n) side)

  edits : EditsCatalog counts old new
  unfolding mdb_in
  edits = record {
    mdb = ap (λ (b : List ℕ). mdb_of (take 162 b)) new_two ∙ put.fields;
    others = λ n other apart. new_other n other ∙ mid_same n apart;
  }

  same_extents : catalog_extents new ≡ catalog_extents old
  same_extents = stays counts (totals x) old new h edits

  file_blocks : (m : Mdb) (es : List Extent) → m ≡ with_counts counts (mdb_in old) → es ≡ catalog_extents old → tree_blocks m es m.catalog_file_size ≡ catalog_blocks old
  unfolding tree_blocks catalog_blocks
  file_blocks m es a b = λ i. tree_blocks (a i) (b i) (a i).catalog_file_size

  pub same_blocks : catalog_blocks new ≡ catalog_blocks old
  unfolding catalog_blocks
  same_blocks = file_blocks (mdb_in new) (catalog_extents new) edits.mdb same_extents

  nodes_now : catalog_nodes new ≡ nodes_in mid runs
  unfolding catalog_nodes catalog_blocks
  nodes_now = sym (nodes_in-tree_blocks new (mdb_in new) (catalog_extents new) (mdb_in new).catalog_file_size runs (at.numbers ∙ sym same_blocks)) ∙ nodes_new

  pub closed : HasCatalog counts (catalog_of (nodes_in (over p (blocks y)) qs)) old new
  unfolding catalog_in
  closed = record {
    tree = record {
      edits = edits;
      beside = subst (SameBesideCounts (old 2)) (sym new_two) put.others;
      tree = subst IsCatalogTree (sym nodes_now) named.keeps.sound;
      frame = subst (KeepsFrame cat_keys (catalog_nodes old)) (sym nodes_now) named.keeps.frame;
      index = subst (λ (s : Store). Each IsIndexKeyName (index_keys cat_keys s)) (sym nodes_now)
          (kept_names (catalog_nodes old) (nodes_in mid runs) named h.records h.names.records h.names.index);
    };
    content = ap catalog_of (nodes_now ∙ sym mid_is);
  }

  pub all_within : AreWithin p (totals y) → 2 < totals x → AreWithin q (totals x)
  all_within within low = put_within p q 2 put.block (totals x) put.put low put.long (subst (AreWithin p) (λ i. totals (kept i).0) within)
