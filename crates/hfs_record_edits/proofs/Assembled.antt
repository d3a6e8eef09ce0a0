-- A sound volume whose catalog was edited is sound, and keeps what calls keep.
use Rattle.std.proofs.Common.{◌≡◌, ℕ, ◌*◌, ◌<◌, ◌≤◌, ◌&&◌, List, ◌++◌, refl, sym, ◌∙◌, ap, subst, arith}
use Rattle.std.specs.Prelude.{◌==◌}
use Rattle.hfs_fields.specs.declared.mdb.Mdb.{Mdb}
use Rattle.hfs_fields.specs.declared.extent.Extent.{Extent}
use Rattle.hfs_fields.specs.Counts.{with_counts}
use Rattle.hfs_fields.proofs.ElementLemmas.{each-right}
use Rattle.hfs_btree.specs.declared.key.Key.{Ghosts}
use Rattle.hfs_btree.specs.Tree.{Store}
use Rattle.hfs_btree.specs.Sound.{IsOther, KeepsFrame}
use Rattle.hfs_space.specs.Bitmap.{bitmap_len, is_used}
use Rattle.hfs_space.specs.Extents.{Overflow}
use Rattle.hfs_space.specs.Owners.{owned_blocks, owners, is_stray_block}
use Rattle.hfs_space.specs.Sound.{IsTreeFile, AreForksSound, IsSpaceSound}
use Rattle.hfs_space.proofs.LawTypes.{AreBlocksWithin, OwnedAreWithin}
use Rattle.hfs_space.specs.TreeKeys.{ext_keys}
use Rattle.hfs_catalog.specs.Sound.{AreIdsSound, AreCountsSound}
use Rattle.hfs_check.specs.Parts.{Blocks, mdb_in, extents_nodes, overflow_in, catalog_extents, catalog_nodes, catalog_in, owned_in, is_marked_in}
use Rattle.hfs_check.specs.Sound.{IsMdbSound, IsExtentsSound, IsCatalogFileSound, AreBlocksSound}
use Rattle.hfs_check.specs.Agree.{bitmap_blocks, node_blocks, changing_blocks, IsBeside}
use Rattle.hfs_check.proofs.Stays.{KeepsVolume}
use Rattle.hfs_record_edits.proofs.OnBlockLemmas.{IsCatalogEdit}
use Rattle.hfs_record_edits.proofs.Space.{owned_each, space_same}
use Rattle.hfs_record_edits.proofs.CatalogEdits.{extents_stay, overflow_stays, catalog_extents_stay, bitmap_stays, clear_stays}

frame_itself : {K : Type 0} (g : Ghosts K) (nodes : Store) → KeepsFrame g nodes nodes
frame_itself g nodes = record { file = refl; nodes = refl; map = refl; map_length = refl; stray = λ n. (λ h. h, λ h. h) }

module _ (law : OwnedAreWithin) (counts : Mdb) (total : ℕ) (old new : Blocks) (h : AreBlocksSound total old) (edit : IsCatalogEdit counts old new) where
  abbrev m : Mdb
  m = with_counts counts (mdb_in old)

  same_mdb : m ≡ mdb_in new
  same_mdb = sym edit.edits.mdb

  same_overflow : overflow_in old ≡ overflow_in new
  same_overflow = sym (overflow_stays counts total old new h edit.edits)

  same_extents : catalog_extents old ≡ catalog_extents new
  same_extents = sym (catalog_extents_stay counts total old new h edit.edits)

  -- ---- the master directory block and the two files

  sound_mdb : IsMdbSound total m
  sound_mdb = record {
    signature = h.mdb.signature;
    some = h.mdb.some;
    least_size = h.mdb.least_size;
    whole_size = h.mdb.whole_size;
    bitmap_behind = h.mdb.bitmap_behind;
    bitmap_before = h.mdb.bitmap_before;
    area = h.mdb.area;
    next_id = edit.least;
  }

  carried : (extents : List Extent) (size : ℕ) → IsTreeFile (mdb_in old) extents size → IsTreeFile m extents size
  carried extents size t = record { within = t.within; room = t.room; node = t.node }

  sound_extents : IsExtentsSound m (extents_nodes old)
  sound_extents = record { file = carried _ _ h.extents.file; shape = h.extents.shape; forks = h.extents.forks; ordered = h.extents.ordered }

  sound_file : IsCatalogFileSound m (catalog_extents old) (catalog_nodes new)
  sound_file = record {
    file = carried _ _ h.catalog.file;
    shape = record {
      structure = edit.tree.structure;
      counts = edit.tree.counts;
      within = subst (λ (n : ℕ). 512 * n ≤ (mdb_in old).catalog_file_size) (sym edit.frame.nodes) h.catalog.shape.within;
    };
  }

  sound_counts : AreCountsSound m (catalog_in new)
  sound_counts = record { root_files = edit.numbers.root_files; root_folders = edit.numbers.root_folders; files = edit.numbers.files; folders = edit.numbers.folders }

  -- ---- space

  all_within : AreBlocksWithin (mdb_in old) (owned_in old)
  unfolding owned_in catalog_extents
  all_within = law (mdb_in old) (overflow_in old) (catalog_in old) h.extents.file h.catalog.file h.forks

  within_bits : (b : ℕ) → 0 < owners (owned_in old) b → is_used new m.bitmap_start b ≡ is_used old (mdb_in old).bitmap_start b
  within_bits b some =
      let low : b < (mdb_in old).allocation_blocks = owned_each (λ (x : ℕ). x < (mdb_in old).allocation_blocks) (owned_in old) all_within b some in
      bitmap_stays counts total old new h edit.edits b (omega (arith, low))

  sound_space : IsSpaceSound new m (owned_blocks m (overflow_in old) (catalog_in new))
  sound_space =
      space_same old new (mdb_in old) m (owned_in old) (owned_blocks m (overflow_in old) (catalog_in new)) edit.owned within_bits
      (clear_stays counts total old new h edit.edits) edit.free h.space

  -- ---- the whole

  pub edited_sound : AreBlocksSound total new
  unfolding owned_in
  edited_sound = record {
    mdb = subst (IsMdbSound total) same_mdb sound_mdb;
    extents = subst (λ (x : Mdb). IsExtentsSound x (extents_nodes new)) same_mdb (subst (IsExtentsSound m) (sym (extents_stay counts total old new h edit.edits)) sound_extents);
    catalog = subst (λ (x : Mdb). IsCatalogFileSound x (catalog_extents new) (catalog_nodes new)) same_mdb (subst (λ (es : List Extent). IsCatalogFileSound m es (catalog_nodes new)) same_extents sound_file);
    records = edit.catalog.records;
    ids = subst (λ (x : Mdb). AreIdsSound x.next_id (catalog_in new)) same_mdb edit.catalog.ids;
    names = record { records = edit.catalog.names; index = edit.index };
    places = record { records = edit.catalog.places; index = edit.tree.ordered.keys };
    valences = edit.catalog.valences;
    counts = subst (λ (x : Mdb). AreCountsSound x (catalog_in new)) same_mdb sound_counts;
    forks = subst (λ (x : Mdb). AreForksSound x (overflow_in new) (catalog_in new)) same_mdb (subst (λ (o : Overflow). AreForksSound m o (catalog_in new)) same_overflow edit.forks);
    space = subst (λ (x : Mdb). IsSpaceSound new x (owned_blocks x (overflow_in new) (catalog_in new))) same_mdb
        (subst (λ (o : Overflow). IsSpaceSound new m (owned_blocks m o (catalog_in new))) same_overflow sound_space);
  }

  -- ---- what stays

  used_same : (i : ℕ) → i < 4096 * bitmap_len (mdb_in old).allocation_blocks → is_marked_in new i ≡ is_marked_in old i
  unfolding is_marked_in
  used_same i within = ap (λ (x : Mdb). is_used new x.bitmap_start i) (sym same_mdb) ∙ bitmap_stays counts total old new h edit.edits i within

  used_here : (b : ℕ) → b < 4096 * bitmap_len (mdb_in old).allocation_blocks → is_used new (mdb_in new).bitmap_start b ≡ is_used old (mdb_in old).bitmap_start b
  used_here b within = ap (λ (x : Mdb). is_used new x.bitmap_start b) (sym same_mdb) ∙ bitmap_stays counts total old new h edit.edits b within

  other_same : (n : ℕ) → IsBeside old n → new n ≡ old n
  unfolding changing_blocks
  other_same n beside =
      edit.edits.others n (λ (two : n ≡ 2). beside.0 (sym two))
      (each-right (IsOther n) (bitmap_blocks (mdb_in old) ++ node_blocks (mdb_in old) (mdb_in old).extents_file (extents_nodes old)) (node_blocks (mdb_in old) (catalog_extents old) (catalog_nodes old)) beside.1)

  owned_same : (b : ℕ) → owners (owned_in new) b ≡ owners (owned_in old) b
  unfolding owned_in
  owned_same b = (λ i. owners (owned_blocks (sym same_mdb i) (sym same_overflow i) (catalog_in new)) b) ∙ edit.owned b

  pub edited_keeps : KeepsVolume old new
  unfolding is_stray_block
  edited_keeps = record {
    mdb = edit.beside;
    bits = λ i spare. used_same i spare.within;
    others = other_same;
    extents = subst (λ (nodes : Store). KeepsFrame ext_keys (extents_nodes old) nodes) (sym (extents_stay counts total old new h edit.edits)) (frame_itself ext_keys (extents_nodes old));
    catalog = edit.frame;
    catalog_file = catalog_extents_stay counts total old new h edit.edits;
    stray = λ b within. λ i. (owned_same b i == 0) && used_here b (omega (arith, within)) i;
  }
