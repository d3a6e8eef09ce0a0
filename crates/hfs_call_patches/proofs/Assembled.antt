-- The edits of a call by which a fork gets other blocks, one over the other, are those of the law.
use Rattle.std.proofs.Common.{◌≡◌, ◌⊎◌, inl, inr, ℕ, ◌+◌, ◌*◌, ◌<◌, ◌≤◌, true, List, length, map, refl, sym, ◌∙◌, ap, subst, arith, Some}
use Rattle.std.specs.Prelude.{IsTrue}
use Rattle.std.specs.List.{flat_map, range_with_len}
use Rattle.hfs_fields.specs.declared.mdb.Mdb.{Mdb}
use Rattle.hfs_fields.specs.declared.key.CatKey.{CatKey}
use Rattle.hfs_fields.specs.declared.extent.Extent.{Extent}
use Rattle.hfs_fields.specs.declared.file_record.FileRecord.{FileRecord}
use Rattle.hfs_fields.specs.Counts.{with_counts}
use Rattle.hfs_fields.specs.Names.{is_item_name}
use Rattle.hfs_fields.specs.Records.{is_file, file_record_of}
use Rattle.hfs_fields.specs.RecordForms.{IsFileRecordValue, file_record_bytes}
use Rattle.hfs_blocks.specs.declared.run.Run.{Run}
use Rattle.hfs_blocks.specs.Blocks.{run_of, nodes_in}
use Rattle.hfs_blocks.specs.Layers.{Changes, over}
use Rattle.hfs_fields.specs.Each.{Each}
use Rattle.hfs_btree.specs.Sound.{IsOther}
use Rattle.hfs_btree.specs.Tree.{Store}
use Rattle.hfs_btree_edits.specs.Files.{beside}
use Rattle.hfs_space.specs.Bitmap.{bitmap_len, is_used}
use Rattle.hfs_space.specs.Extents.{extent_blocks, fork_extents}
use Rattle.hfs_space.specs.ForkLaws.{block_numbers}
use Rattle.hfs_space.specs.ForkLengths.{all_bytes}
use Rattle.hfs_space.specs.Forks.{blocks_each, joined}
use Rattle.hfs_space.specs.Owners.{owners}
use Rattle.hfs_space.specs.TreeKeys.{overflow_of}
use Rattle.hfs_record_edits.specs.Released.{HasReleased}
use Rattle.hfs_space.specs.Choice.{AreFreeOnce}
use Rattle.hfs_space.specs.Claimed.{HasClaimed}
use Rattle.hfs_model.specs.declared.call.Fork.{Fork}
use Rattle.hfs_model.specs.declared.call.Fork.TheVariants.{DataFork, ResFork}
use Rattle.hfs_catalog.specs.Records.{Record, item_with}
use Rattle.hfs_record_edits.specs.RecordEdits.{RecordSet}
use Rattle.hfs_check.specs.Parts.{Blocks, mdb_in, extents_nodes, overflow_in, catalog_extents, catalog_nodes, catalog_in}
use Rattle.hfs_check.specs.Sound.{AreBlocksSound}
use Rattle.hfs_check.proofs.LawsProved.{catalog_is_sound}
use Rattle.hfs_record_edits.proofs.CatalogEdits.{below_area}
use Rattle.hfs_model.specs.Forks.{blocks}
use Rattle.hfs_space.specs.Parts.{with_part, zeros}
use Rattle.hfs_space.specs.Written.{KeepsBeside}
use Rattle.hfs_record_edits.specs.Cuts.{cut}
use Rattle.hfs_record_edits.specs.Growing.{grown, HasGrown}
use Rattle.hfs_record_edits.specs.Shortening.{HasShortened}
use Rattle.hfs_record_edits.specs.Whole.{EditsFork}
use Rattle.hfs_record_edits.specs.declared.shortening.ShortFork.{ShortFork}
use Rattle.hfs_record_edits.proofs.CutLemmas.{blocks-cut}
use Rattle.hfs_call_patches.specs.Files.{fork_of, file_with}
use Rattle.hfs_call_patches.specs.Edits.{byte_of, extents_of, blocks_of}
use Rattle.hfs_call_patches.specs.Sized.{Loses, GetsBlocks}
use Rattle.hfs_call_patches.specs.Laid.{AreWritten}
use Rattle.hfs_call_patches.specs.CallEdits.{SetsFork}
use Rattle.hfs_call_patches.proofs.Beside.{id_same}
use Rattle.hfs_call_patches.proofs.SoundForks as sounds
use Rattle.hfs_call_patches.specs.Settings.{PutsCounts}
use Rattle.hfs_call_patches.specs.TreeFiles.{IsExtentsFile, IsCatalogFile}
use Rattle.hfs_call_patches.proofs.Different.{numbers-are}
use Rattle.hfs_call_patches.specs.Counts.{counts_with}
use Rattle.hfs_call_patches.specs.Gaining.{KeepsBesideBlocks, IsLaidFor}
use Rattle.hfs_call_patches.specs.Laying.{LaysBoth}
use Rattle.hfs_call_patches.proofs.Apart as apart
use Rattle.hfs_call_patches.proofs.Bitmaps as bitmaps
use Rattle.hfs_call_patches.proofs.Ready as ready
use Rattle.hfs_call_patches.proofs.SettledNodes as settled

-- ---- bytes that were laid over extents are laid over all that have the same blocks

all_same : (b : Blocks) (mdb : Mdb) (es : List Extent) → all_bytes b mdb es ≡ joined (map b (block_numbers mdb es))
unfolding nodes_in
all_same b mdb es = refl

pub bytes_same : (b : Blocks) (mdb : Mdb) (xs ys : List Extent) → block_numbers mdb ys ≡ block_numbers mdb xs → all_bytes b mdb ys ≡ all_bytes b mdb xs
bytes_same b mdb xs ys e = all_same b mdb ys ∙ ap (λ (ns : List ℕ). joined (map b ns)) e ∙ sym (all_same b mdb xs)

pub laid_same : (mdb : Mdb) (xs ys : List Extent) (from count offset : ℕ) (part : List ℕ) (old new : Blocks) → block_numbers mdb ys ≡ block_numbers mdb xs → LaysBoth mdb xs from count offset part old new → LaysBoth mdb ys from count offset part old new
laid_same mdb xs ys from count offset part old new e lays = record {
  cleared = lays.cleared;
  zeros = record {
    zeros = bytes_same lays.cleared mdb xs ys e ∙ lays.zeros.zeros ∙ ap (λ (l : List ℕ). with_part from (zeros count) l) (sym (bytes_same old mdb xs ys e));
    beside = subst (λ (ns : List ℕ). KeepsBeside ns from count old lays.cleared) (sym e) lays.zeros.beside;
  };
  bytes = record {
    given = bytes_same new mdb xs ys e ∙ lays.bytes.given ∙ ap (with_part offset part) (sym (bytes_same lays.cleared mdb xs ys e));
    beside = subst (λ (ns : List ℕ). KeepsBeside ns offset (length part) lays.cleared new) (sym e) lays.bytes.beside;
  };
}

pub numbers_same : (mdb : Mdb) (xs ys : List Extent) → extent_blocks ys ≡ extent_blocks xs → block_numbers mdb ys ≡ block_numbers mdb xs
numbers_same mdb xs ys e = numbers-are mdb ys ∙ ap (λ (l : List ℕ). flat_map (λ a. range_with_len (mdb.allocation_start + a * blocks_each mdb) (blocks_each mdb)) l) e ∙ sym (numbers-are mdb xs)

-- ---- the file's record

pub first_of : (size : ℕ) (fork : Fork) (len : ℕ) (first : List Extent) (now : ℕ) (f : FileRecord) → (fork_of fork (file_with size fork len first now f)).extents ≡ first
first_of size DataFork len first now f = refl
first_of size ResFork len first now f = refl

-- the file's record was set in the catalog, over the blocks b2, and then the counts, in a patch over those below
pub record SettlesBlocks (key : CatKey) (file : FileRecord) (counts : Mdb) (two : List ℕ) (catalog : List Run) (b2 below : Blocks) (q : Changes) : Type 0 where
  pub p : Changes
  pub set : RecordSet (key, file_record_bytes file) (nodes_in b2 catalog) (nodes_in (over p below) catalog)
  pub value : IsFileRecordValue file
  pub side : beside (flat_map run_of catalog) (over p below) ≡ beside (flat_map run_of catalog) b2
  pub put : PutsCounts counts two p q

-- ---- the whole

module _ (total id : ℕ) (fork : Fork) (r : Record) (old : Blocks) (h : AreBlocksSound total old) (was : item_with (catalog_in old) id ≡ Some r) (is : is_file r.1 ≡ true)
    (extents catalog : List Run) (ext : IsExtentsFile extents total old) (cat : IsCatalogFile catalog total old)
    (wanted : ℕ) (pieces : List Extent) (free : AreFreeOnce (is_used old (mdb_in old).bitmap_start) (mdb_in old).allocation_blocks wanted pieces)
    (all : List Extent) (has : (a : ℕ) → owners (extent_blocks all) a ≤ owners (blocks_of old fork (file_record_of r.1)) a + owners (extent_blocks pieces) a)
    (b0 : Blocks) (data_same : KeepsBesideBlocks (block_numbers (mdb_in old) all) old b0)
    (b1 : Blocks) (bits_beside : (k : ℕ) → (k < (mdb_in old).bitmap_start) ⊎ ((mdb_in old).bitmap_start + bitmap_len (mdb_in old).allocation_blocks ≤ k) → b1 k ≡ b0 k) where
  abbrev mdb : Mdb
  mdb = mdb_in old

  abbrev f : FileRecord
  f = file_record_of r.1

  abbrev F : List ℕ
  F = block_numbers mdb all

  low_apart : (n : ℕ) → n < mdb.allocation_start → Each (IsOther n) F
  low_apart n lt = below_area mdb all n lt

  one : Each (λ n. Each (IsOther n) F) (block_numbers mdb mdb.extents_file)
  one = apart.extents_apart catalog_is_sound total id fork r old h was is wanted pieces free all has

  two : Each (λ n. Each (IsOther n) F) (block_numbers mdb (catalog_extents old))
  two = apart.catalog_apart catalog_is_sound total id fork r old h was is wanted pieces free all has

  given : 16 ≤ f.id
  given = sounds.given catalog_is_sound total id fork r old h was is

  named : IsTrue (is_item_name r.0.name)
  named = ready.named catalog_is_sound total id fork r old h was is

  -- the extents tree is as it was
  pub nodes_first : nodes_in b1 extents ≡ extents_nodes old
  nodes_first = settled.extents_first total old h extents catalog ext cat F b0 data_same low_apart one two b1 bits_beside

  bits_same : (k : ℕ) → mdb.bitmap_start ≤ k → k < mdb.bitmap_start + bitmap_len mdb.allocation_blocks → b0 k ≡ old k
  bits_same k from to = settled.bits_before total old h extents catalog ext cat F b0 data_same low_apart one two k to

  abbrev bits_now : Blocks
  bits_now = bitmaps.bits mdb.bitmap_start mdb.allocation_blocks old b0 b1 bits_same

  module _ (b2 : Blocks) (edits : EditsFork f.id (byte_of fork) (nodes_in b1 extents) (nodes_in b2 extents)) (side : beside (flat_map run_of extents) b2 ≡ beside (flat_map run_of extents) b1) where
    -- and so is the catalog
    pub nodes_second : nodes_in b2 catalog ≡ catalog_nodes old
    nodes_second = settled.catalog_second total old h extents catalog ext cat F b0 data_same low_apart one two b1 bits_beside f.id (byte_of fork) b2 edits side

    module _ (len now left : ℕ) (first : List Extent) (z : Blocks) (q : Changes) (s : SettlesBlocks r.0 (file_with (mdb_in old).allocation_block_size fork len first now f) (counts_with left now (mdb_in old)) (old 2) catalog b2 z q) where
      abbrev file : FileRecord
      file = file_with mdb.allocation_block_size fork len first now f

      abbrev new : Blocks
      new = over q z

      abbrev size : ℕ
      size = mdb.allocation_block_size

      nodes_now : extents_nodes new ≡ nodes_in b2 extents
      nodes_now = settled.extents_now total old h extents catalog ext cat F b0 data_same low_apart one two b1 bits_beside f.id (byte_of fork) b2 edits side r (file_record_bytes file) named (over s.p z) s.set s.side z s.p q (counts_with left now mdb) refl s.put

      bitmap_now : (k : ℕ) → mdb.bitmap_start ≤ k → k < mdb.bitmap_start + bitmap_len mdb.allocation_blocks → new k ≡ bits_now k
      bitmap_now k from to =
          settled.bits_stay total old h extents catalog ext cat F b0 data_same low_apart one two b1 bits_beside f.id (byte_of fork) b2 edits side r (file_record_bytes file) named (over s.p z) s.set s.side z s.p q (counts_with left now mdb) refl s.put k from to
          ∙ sym (bitmaps.bits_in mdb.bitmap_start mdb.allocation_blocks old b0 b1 bits_same k from to)

      -- the counts are those of the master directory block then
      pub directory : mdb_in new ≡ with_counts (counts_with left now mdb) mdb
      directory = settled.directory total old h extents catalog ext cat F b0 data_same low_apart one two b1 bits_beside f.id (byte_of fork) b2 edits side r (file_record_bytes file) named (over s.p z) s.set s.side z s.p q (counts_with left now mdb) refl s.put

      set_all : (gets : GetsBlocks fork f first (blocks size len) old new) → left + blocks size len ≡ mdb.free_blocks + length (blocks_of old fork f) → block_numbers mdb (extents_of new fork file) ≡ F
          → (from count offset : ℕ) (part written : List ℕ) → IsLaidFor fork f len all from count offset part written old b0 → SetsFork fork r len now offset part written old new
      set_all gets freed numbers from count offset part written laid =
          let lays = laid_same mdb all (extents_of new fork file) from count offset part old b0 numbers laid.lays in
          record {
            was = is;
            first = first;
            file = file;
            file_is = refl;
            gets = gets;
            set = settled.sets_record total old h extents catalog ext cat F b0 data_same low_apart one two b1 bits_beside f.id (byte_of fork) b2 edits side r (file_record_bytes file) named (over s.p z) s.set s.side z s.p q (counts_with left now mdb) refl s.put
                given file refl s.value;
            free = left;
            counts = record {
              mdb = directory;
              beside = settled.counts_beside total old h extents catalog ext cat F b0 data_same low_apart one two b1 bits_beside f.id (byte_of fork) b2 edits side r (file_record_bytes file) named (over s.p z) s.set s.side z s.p q (counts_with left now mdb) refl s.put;
            };
            freed = freed;
            from = from;
            count = count;
            are_zeros = laid.are_zeros;
            lays = record {
              before = old;
              begins = λ n other. refl;
              cleared = lays.cleared;
              zeros = lays.zeros;
              between = lays.cleared;
              goes_on = λ n other. refl;
              laid = b0;
              bytes = lays.bytes;
              ends = settled.others total old h extents catalog ext cat F b0 data_same low_apart one two b1 bits_beside f.id (byte_of fork) b2 edits side r (file_record_bytes file) named (over s.p z) s.set s.side z s.p q (counts_with left now mdb) refl s.put;
            };
            are_written = subst (λ (ns : List ℕ). AreWritten ns from count offset (length part) written) (sym numbers) laid.are_written;
          }

      id_is : file.id ≡ f.id
      id_is = id_same size fork len first now f

      first_is : (fork_of fork file).extents ≡ first
      first_is = first_of size fork len first now f

      extents_are : extents_of new fork file ≡ fork_extents (overflow_of (extents_nodes new)) f.id (byte_of fork) first
      unfolding overflow_in
      extents_are = λ i. fork_extents (overflow_of (extents_nodes new)) (id_is i) (byte_of fork) (first_is i)

      -- ---- blocks came

      module _ (all_is : all ≡ grown (extents_of old fork f) pieces) (claimed : HasClaimed mdb.bitmap_start mdb.allocation_blocks (extent_blocks pieces) b0 b1)
          (grows : HasGrown f.id (byte_of fork) (fork_of fork f).extents first pieces (nodes_in b1 extents) (nodes_in b2 extents)) where
        grown_old : HasGrown f.id (byte_of fork) (fork_of fork f).extents first pieces (extents_nodes old) (extents_nodes new)
        grown_old =
            subst (λ (s : Store). HasGrown f.id (byte_of fork) (fork_of fork f).extents first pieces (extents_nodes old) s) (sym nodes_now)
            (subst (λ (s : Store). HasGrown f.id (byte_of fork) (fork_of fork f).extents first pieces s (nodes_in b2 extents)) nodes_first grows)

        grown_are : extents_of new fork file ≡ all
        unfolding overflow_in
        grown_are = extents_are ∙ grown_old.has.extents ∙ sym all_is

        come_low : (b : ℕ) → 0 < owners (extent_blocks pieces) b → b < mdb.allocation_blocks
        come_low b some = apart.pieces_within mdb.allocation_blocks pieces free.within b some

        pub gained : length (blocks_of old fork f) + wanted ≡ blocks size len → left + wanted ≡ mdb.free_blocks
            → (from count offset : ℕ) (part written : List ℕ) → IsLaidFor fork f len all from count offset part written old b0 → SetsFork fork r len now offset part written old new
        gained enough fewer = set_all
            (inl (record {
              wanted = wanted;
              count = enough;
              pieces = pieces;
              free = free;
              grown = grown_old;
              bits = bits_now;
              claimed = bitmaps.claimed_old mdb.bitmap_start mdb.allocation_blocks old b0 b1 bits_same (extent_blocks pieces) come_low claimed;
              bitmap = bitmap_now;
            }))
            (omega (arith, enough, fewer)) (ap (block_numbers mdb) grown_are)

      -- ---- blocks went

      module _ (n : ℕ) (count_is : n ≡ blocks size len) (all_is : all ≡ cut n (extents_of old fork f)) (short : ShortFork) (first_as : short.first ≡ first)
          (lost : HasReleased mdb.bitmap_start mdb.allocation_blocks (extent_blocks short.surplus.items) b0 b1)
          (shortens : HasShortened f.id (byte_of fork) (fork_of fork f).extents n short (nodes_in b1 extents) (nodes_in b2 extents)) where
        short_old : HasShortened f.id (byte_of fork) (fork_of fork f).extents n short (extents_nodes old) (extents_nodes new)
        short_old =
            subst (λ (s : Store). HasShortened f.id (byte_of fork) (fork_of fork f).extents n short (extents_nodes old) s) (sym nodes_now)
            (subst (λ (s : Store). HasShortened f.id (byte_of fork) (fork_of fork f).extents n short s (nodes_in b2 extents)) nodes_first shortens)

        blocks_now : extent_blocks (extents_of new fork file) ≡ extent_blocks all
        unfolding overflow_in
        blocks_now =
            ap extent_blocks (extents_are ∙ ap (λ (es : List Extent). fork_extents (overflow_of (extents_nodes new)) f.id (byte_of fork) es) (sym first_as))
            ∙ short_old.blocks ∙ sym (blocks-cut n (extents_of old fork f)) ∙ ap extent_blocks (sym all_is)

        go_low : (b : ℕ) → 0 < owners (extent_blocks short.surplus.items) b → b < mdb.allocation_blocks
        unfolding overflow_in
        go_low b some = apart.pieces_within mdb.allocation_blocks short.surplus.items (short_old.within mdb.allocation_blocks (ready.own_within catalog_is_sound total id fork r old h was is)) b some

        pub lessened : n ≤ length (blocks_of old fork f) → left + n ≡ mdb.free_blocks + length (blocks_of old fork f)
            → (from count offset : ℕ) (part written : List ℕ) → IsLaidFor fork f len all from count offset part written old b0 → SetsFork fork r len now offset part written old new
        lessened fewer freed = set_all
            (inr (inl (subst (λ (k : ℕ). Loses fork f first k old new) count_is (record {
              fewer = fewer;
              short = short;
              left = first_as;
              shortened = short_old;
              bits = bits_now;
              released = bitmaps.released_old mdb.bitmap_start mdb.allocation_blocks old b0 b1 bits_same (extent_blocks short.surplus.items) go_low lost;
              bitmap = bitmap_now;
            }))))
            (omega (arith, freed, count_is)) (numbers_same mdb all (extents_of new fork file) blocks_now)
