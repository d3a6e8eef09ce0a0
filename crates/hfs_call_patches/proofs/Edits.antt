-- What the edits of a fork ask of each other, and what they make together, of a volume and a file that were found.
use Rattle.std.proofs.Common.{◌≡◌, ◌⊎◌, inl, inr, ℕ, ◌+◌, ◌*◌, ◌<◌, ◌≤◌, ◌^◌, Bool, true, cond, ◌&&◌, List, ◌++◌, length, sym, ◌∙◌, ap, subst, arith}
use Rattle.std.specs.Prelude.{Option, Some, None, Result, ℤ}
use Rattle.std.specs.List.{flat_map}
use Rattle.std.proofs.lemmas.Bool.{cases_lt, le-leb}
use Rattle.std.proofs.lemmas.Option.{same_Some, none-some}
use Rattle.hfs_fields.specs.declared.mdb.Mdb.{Mdb}
use Rattle.hfs_fields.specs.declared.key.CatKey.{CatKey}
use Rattle.hfs_fields.specs.declared.extent.Extent.{Extent}
use Rattle.hfs_fields.specs.declared.file_record.FileRecord.{FileRecord}
use Rattle.hfs_fields.specs.declared.file_record.ForkRecord.{ForkRecord}
use Rattle.hfs_fields.specs.Counts.{with_counts}
use Rattle.hfs_fields.specs.Keys.{cat_cmp}
use Rattle.hfs_fields.specs.Records.{is_file, file_record_of}
use Rattle.hfs_blocks.specs.declared.run.Run.{Run}
use Rattle.hfs_blocks.specs.Blocks.{run_of, nodes_in, AreRunsWithin}
use Rattle.hfs_blocks.specs.Layers.{Numbered, changes, over}
use Rattle.hfs_btree.specs.Header.{header_in}
use Rattle.hfs_btree.specs.Sound.{IsDistinct}
use Rattle.hfs_btree.specs.Pairs.{lookup}
use Rattle.hfs_btree.specs.Tree.{Store}
use Rattle.hfs_btree_edits.specs.Entries.{IsPlaceOf}
use Rattle.hfs_btree_edits.specs.Files.{beside}
use Rattle.hfs_space.specs.declared.fork_kind.ForkKind.{ForkKind}
use Rattle.hfs_space.specs.Bitmap.{bitmap_len, is_used}
use Rattle.hfs_space.specs.Extents.{block_total, extent_blocks, fork_byte, fork_extents, AreExtentsWithin}
use Rattle.hfs_space.specs.ForkLaws.{block_numbers}
use Rattle.hfs_space.specs.Owners.{owners}
use Rattle.hfs_space.specs.TreeKeys.{IsExtentsTree, overflow_of, extents_through}
use Rattle.hfs_record_edits.specs.Released.{HasReleased}
use Rattle.hfs_record_edits.specs.Need.{HasNodesFor}
use Rattle.hfs_space.specs.Choice.{AreFreeOnce}
use Rattle.hfs_space.specs.Claimed.{HasClaimed}
use Rattle.hfs_model.specs.declared.call.Fork.{Fork}
use Rattle.hfs_model.specs.Volume.{Entry}
use Rattle.hfs_catalog.specs.Records.{Record}
use Rattle.hfs_catalog.specs.Tree.{cat_keys, IsCatalogTree, catalog_of}
use Rattle.hfs_record_edits.specs.Bodies.{IfBody, IsOfKind}
use Rattle.hfs_catalog.specs.declared.item.ItemRecord.TheVariants.{File}
use Rattle.hfs_check.specs.Parts.{Blocks, mdb_in, extents_nodes, overflow_in, catalog_nodes, catalog_in}
use Rattle.hfs_check.specs.Sound.{AreBlocksSound}
use Rattle.hfs_check.proofs.LawsProved.{catalog_is_sound, trees_are_sound}
use Rattle.hfs_record_edits.proofs.LawsProved.{choice_stands}
use Rattle.hfs_record_edits.proofs.Space.{each_owned}
use Rattle.hfs_model.specs.Forks.{is_block_size, blocks, physical_length}
use Rattle.hfs_record_edits.specs.Cuts.{cut, surplus}
use Rattle.hfs_record_edits.specs.Growing.{grown, records_coming, HasGrown, HasRoomFor, IsWantOfNodes}
use Rattle.hfs_record_edits.specs.declared.growing.NodesWanted.{NodesWanted}
use Rattle.hfs_record_edits.specs.Shortening.{HasShortened}
use Rattle.hfs_record_edits.specs.Whole.{EditsFork, IsWhole}
use Rattle.hfs_record_edits.specs.declared.shortening.ShortFork.{ShortFork}
use Rattle.hfs_call_patches.specs.Files.{kind_of, fork_of, file_with}
use Rattle.hfs_call_patches.specs.Edits.{byte_of, extents_of, blocks_of}
use Rattle.hfs_call_patches.specs.CallEdits.{SetsFork}
use Rattle.hfs_call_patches.proofs.Rooms.{extents_within, within_each}
use Rattle.hfs_space.proofs.OwnedLemmas.{length-blocks}
use Rattle.hfs_call_patches.proofs.SoundForks as sounds
use Rattle.hfs_call_patches.specs.Settings.{IsBody, IsFileUnder}
use Rattle.hfs_call_patches.proofs.Different.{different}
use Rattle.hfs_call_patches.proofs.FileParts.{extents_different}
use Rattle.hfs_call_patches.specs.Calls.{IsForkVolume, IsFoundIn}
use Rattle.hfs_call_patches.specs.Counts.{counts_with}
use Rattle.hfs_call_patches.specs.Found.{IsFoundFile}
use Rattle.hfs_call_patches.specs.Gaining.{KeepsBesideBlocks, IsLaidFor}
use Rattle.hfs_call_patches.specs.Recorded.{IsFileAt}
use Rattle.hfs_call_patches.specs.Settling.{Settles}
use Rattle.hfs_call_patches.specs.declared.choosing.FoundFile.{FoundFile}
use Rattle.hfs_call_patches.proofs.Apart as apart
use Rattle.hfs_call_patches.proofs.Assembled as assembled
use Rattle.hfs_call_patches.proofs.Ready as ready

-- ---- the fork in the tree's keys and in the file's record

module _ (fork : Fork) (f : FileRecord) (kind : ForkKind) (x : ForkRecord) (k : kind ≡ kind_of fork) (e : x ≡ fork_of fork f) where
  by_fork : (P : ℕ → List Extent → Type 0) → P (fork_byte kind) x.extents → P (byte_of fork) (fork_of fork f).extents
  by_fork P h = subst (λ (y : ForkRecord). P (byte_of fork) y.extents) e (subst (λ (z : ForkKind). P (fork_byte z) x.extents) k h)

  pub edited_by : (a b : Store) → EditsFork f.id (fork_byte kind) a b → EditsFork f.id (byte_of fork) a b
  edited_by a b h = by_fork (λ n es. EditsFork f.id n a b) h

  pub grown_by : (now pieces : List Extent) (a b : Store) → HasGrown f.id (fork_byte kind) x.extents now pieces a b → HasGrown f.id (byte_of fork) (fork_of fork f).extents now pieces a b
  grown_by now pieces a b h = by_fork (λ n es. HasGrown f.id n es now pieces a b) h

  pub shortened_by : (count : ℕ) (short : ShortFork) (a b : Store) → HasShortened f.id (fork_byte kind) x.extents count short a b → HasShortened f.id (byte_of fork) (fork_of fork f).extents count short a b
  shortened_by count short a b h = by_fork (λ n es. HasShortened f.id n es count short a b) h

  pub whole_by : (s : Store) → IsWhole f.id (byte_of fork) (fork_of fork f).extents s → IsWhole f.id (fork_byte kind) x.extents s
  whole_by s h = subst (λ (z : ForkKind). IsWhole f.id (fork_byte z) x.extents s) (sym k) (subst (λ (y : ForkRecord). IsWhole f.id (byte_of fork) y.extents s) (sym e) h)

-- a fork to which pieces come has its blocks and theirs
pub has_grown : (old : Blocks) (fork : Fork) (f : FileRecord) (pieces : List Extent) → extent_blocks (grown (extents_of old fork f) pieces) ≡ blocks_of old fork f ++ extent_blocks pieces
    → (a : ℕ) → owners (extent_blocks (grown (extents_of old fork f) pieces)) a ≤ owners (blocks_of old fork f) a + owners (extent_blocks pieces) a
has_grown old fork f pieces made = apart.with_pieces (grown (extents_of old fork f) pieces) (blocks_of old fork f) (extent_blocks pieces) made

-- a file's body is of a file's kind
of_kind : (file : FileRecord) (o : Option (List ℕ)) → IsBody is_file o → IfBody (IsOfKind (File file)) o
of_kind file None h = h
of_kind file (Some body) h = h

-- ---- the volume

module _ (total : ℕ) (old : Blocks) (mdb : Mdb) (extents catalog : List Run) (v : IsForkVolume total old mdb extents catalog) where
  abbrev h : AreBlocksSound total old
  h = v.sound

  by_mdb : (P : Mdb → Type 0) → P mdb → P (mdb_in old)
  by_mdb P p = subst P v.directory p

  to_mdb : (P : Mdb → Type 0) → P (mdb_in old) → P mdb
  to_mdb P p = subst P (sym v.directory) p

  pub bitmap_there : (t : ℕ) → t ≡ total → mdb.bitmap_start + bitmap_len mdb.allocation_blocks ≤ t
  bitmap_there t same =
      let before = h.mdb.bitmap_before in
      let area = h.mdb.area in
      to_mdb (λ (m : Mdb). m.bitmap_start + bitmap_len m.allocation_blocks ≤ t) (omega (arith, before, area, same))

  pub three_blocks : 2 < total
  three_blocks =
      let before = h.mdb.bitmap_before in
      let behind = h.mdb.bitmap_behind in
      let area = h.mdb.area in
      omega (arith, before, behind, area)

  pub extents_in : (t : ℕ) → t ≡ total → AreRunsWithin extents t
  extents_in t same = subst (λ (n : ℕ). AreRunsWithin extents n) (sym same) v.extents_file.within

  pub catalog_runs : (t : ℕ) → t ≡ total → AreRunsWithin catalog t
  catalog_runs t same = subst (λ (n : ℕ). AreRunsWithin catalog n) (sym same) v.catalog_file.within

  pub extents_once : IsDistinct (flat_map run_of extents)
  extents_once = subst IsDistinct (sym v.extents_file.numbers) (extents_different total old h)

  pub catalog_once : IsDistinct (flat_map run_of catalog)
  catalog_once = subst IsDistinct (sym v.catalog_file.numbers) (different total old h)

  -- its allocation blocks have a size
  size_there : is_block_size mdb.allocation_block_size ≡ true
  size_there =
      let some : 1 ≤ (mdb_in old).allocation_block_size = (let least = h.mdb.least_size in omega (arith, least)) in
      let most : (mdb_in old).allocation_block_size ≤ 2147483648 = (let bytes = ready.area_bytes total old h v.few 1 h.mdb.some in omega (arith, bytes)) in
      to_mdb (λ (m : Mdb). is_block_size m.allocation_block_size ≡ true) (λ i. le-leb 1 (mdb_in old).allocation_block_size some i && le-leb (mdb_in old).allocation_block_size 2147483648 most i)

  sized : (r : Option ℕ) → r ≡ cond (is_block_size mdb.allocation_block_size) (Some mdb.allocation_block_size) None → r ≡ Some mdb.allocation_block_size
  sized r e = e ∙ ap (λ (t : Bool). cond t (Some mdb.allocation_block_size) None) size_there

  pub size_of : (r : Option ℕ) (b : ℕ) → r ≡ cond (is_block_size mdb.allocation_block_size) (Some mdb.allocation_block_size) None → r ≡ Some b → b ≡ mdb.allocation_block_size
  size_of r b e is = same_Some b mdb.allocation_block_size (sym is ∙ sized r e)

  pub size_some : (r : Option ℕ) → r ≡ cond (is_block_size mdb.allocation_block_size) (Some mdb.allocation_block_size) None → r ≡ None → ⊥
  size_some r e none = none-some mdb.allocation_block_size (sym none ∙ sized r e)

  -- ---- where the extents tree has the nodes that it had

  module _ (s : Store) (e : s ≡ extents_nodes old) where
    pub tree_of : IsExtentsTree s
    tree_of = subst IsExtentsTree (sym e) (trees_are_sound total old h).0

    pub small_of : 512 * (header_in s).nodes < 2 ^ 32
    small_of = subst (λ (x : Store). 512 * (header_in x).nodes < 2 ^ 32) (sym e) (ready.nodes_small total old h (ready.size_small total old h v.few))

    pub in_file_of : (header_in s).nodes ≤ length s
    in_file_of = subst (λ (x : Store). (header_in x).nodes ≤ length x) (sym e) (ready.nodes_there total old h)

  -- ---- where the catalog has

  module _ (s : Store) (e : s ≡ catalog_nodes old) where
    pub catalog_tree_of : IsCatalogTree s
    catalog_tree_of = subst IsCatalogTree (sym e) (trees_are_sound total old h).1

    module _ (f : FoundFile) (fd : IsFoundIn old f) where
      pub place_of : IsPlaceOf cat_keys s f.key f.place
      place_of = subst (λ (x : Store). IsPlaceOf cat_keys x f.key f.place) (sym e) fd.is.place

      pub there_of : (file : FileRecord) → IsFileAt s f.key file
      unfolding catalog_in
      there_of file =
          let own = fd.is.choice in
          let stands : IsBody is_file (lookup cat_cmp own.of.0 (catalog_in old)) = subst (IsBody is_file) (sym (choice_stands total fd.chosen own.of old h own.choice)) own.is in
          let under : IsFileUnder f.key (catalog_of (catalog_nodes old)) = subst (λ (k : CatKey). IsFileUnder k (catalog_in old)) own.own_key stands in
          of_kind file _ (subst (λ (x : Store). IsFileUnder f.key (catalog_of x)) (sym e) under)

  -- ---- the file

  module _ (f : FoundFile) (fork : Fork) (chosen : Result Entry ℤ) (is : IsFoundFile old chosen f) where
    abbrev r : Record
    r = is.choice.of

    to_file : (P : FileRecord → Type 0) → P (file_record_of r.1) → P f.file
    to_file P p = subst P is.choice.own_file p

    by_file : (P : FileRecord → Type 0) → P f.file → P (file_record_of r.1)
    by_file P p = subst P (sym is.choice.own_file) p

    pub whole_of : (s : Store) → s ≡ extents_nodes old → IsWhole f.file.id (byte_of fork) (fork_of fork f.file).extents s
    whole_of s e =
        subst (λ (x : Store). IsWhole f.file.id (byte_of fork) (fork_of fork f.file).extents x) (sym e)
        (to_file (λ (x : FileRecord). IsWhole x.id (byte_of fork) (fork_of fork x).extents (extents_nodes old)) (sounds.own_whole catalog_is_sound total is.choice.choice.id fork r old h is.choice.choice.was is.choice.is))

    pub within_of : AreExtentsWithin mdb.allocation_blocks (extents_of old fork f.file)
    within_of =
        to_mdb (λ (m : Mdb). AreExtentsWithin m.allocation_blocks (extents_of old fork f.file))
        (to_file (λ (x : FileRecord). AreExtentsWithin (mdb_in old).allocation_blocks (extents_of old fork x)) (ready.own_within catalog_is_sound total is.choice.choice.id fork r old h is.choice.choice.was is.choice.is))

    pub once_of : (b : ℕ) → owners (blocks_of old fork f.file) b ≤ 1
    once_of b = to_file (λ (x : FileRecord). owners (blocks_of old fork x) b ≤ 1) (sounds.own_once catalog_is_sound total is.choice.choice.id fork r old h is.choice.choice.was is.choice.is b)

    -- with the free blocks it has no more than the volume
    pub few_of : mdb.free_blocks + length (blocks_of old fork f.file) ≤ mdb.allocation_blocks
    few_of =
        to_mdb (λ (m : Mdb). m.free_blocks + length (blocks_of old fork f.file) ≤ m.allocation_blocks)
        (to_file (λ (x : FileRecord). (mdb_in old).free_blocks + length (blocks_of old fork x) ≤ (mdb_in old).allocation_blocks) (sounds.own_few catalog_is_sound total is.choice.choice.id fork r old h is.choice.choice.was is.choice.is))

    -- its blocks have room for its bytes
    pub room_of : (fork_of fork f.file).length ≤ length (blocks_of old fork f.file) * mdb.allocation_block_size
    room_of =
        to_mdb (λ (m : Mdb). (fork_of fork f.file).length ≤ length (blocks_of old fork f.file) * m.allocation_block_size)
        (to_file (λ (x : FileRecord). (fork_of fork x).length ≤ length (blocks_of old fork x) * (mdb_in old).allocation_block_size) (ready.own_room catalog_is_sound total is.choice.choice.id fork r old h is.choice.choice.was is.choice.is))

    -- with pieces of so many free blocks, it has no more than a key can count
    pub room_has : mdb.allocation_blocks ≤ 65535 → (wanted : ℕ) (pieces : List Extent) → length (extent_blocks pieces) ≡ wanted → wanted ≤ mdb.free_blocks → HasRoomFor (extents_of old fork f.file) pieces
    room_has most wanted pieces enough there =
        let few = few_of in
        let had = length-blocks (extents_of old fork f.file) in
        let come = length-blocks pieces in
        omega (arith, most, enough, there, few, had, come)

    pub total_few : mdb.allocation_blocks ≤ 65535 → block_total (extents_of old fork f.file) ≤ 65535
    total_few most = let few = few_of in let had = length-blocks (extents_of old fork f.file) in omega (arith, most, few, had)

    -- what is found of it, where the extents tree has the nodes that it had
    pub found_of : (s : Store) → s ≡ extents_nodes old → (kind : ForkKind) (x : ForkRecord) → kind ≡ kind_of fork → x ≡ fork_of fork f.file → (P : List Extent → Type 0) → P (extents_of old fork f.file) → P (extents_through s f.file.id kind x.extents)
    found_of s e kind x k y P p = subst P (sym (ready.found_are old fork f.file s e kind k x y)) p

    pub bytes_few : (n : ℕ) → n ≤ mdb.allocation_blocks → n * mdb.allocation_block_size ≤ 2147483648
    bytes_few = to_mdb (λ (m : Mdb). (n : ℕ) → n ≤ m.allocation_blocks → n * m.allocation_block_size ≤ 2147483648) (ready.area_bytes total old h v.few)

    -- so many bytes of the volume's blocks are counted by a number of 32 bits
    pub physical_of : (size len : ℕ) → size ≡ mdb.allocation_block_size → blocks size len ≤ mdb.allocation_blocks → physical_length size len < 2 ^ 32
    physical_of size len size_is few =
        let bytes : blocks size len * size ≤ 2147483648 = subst (λ (k : ℕ). blocks size len * k ≤ 2147483648) (sym size_is) (bytes_few (blocks size len) few) in
        omega (arith, bytes)

    -- where the tree has the nodes that it had, it has enough free ones, or too few, as it had
    pub enough_of : (pieces : List Extent) (s : Store) → s ≡ extents_nodes old → HasNodesFor (records_coming (fork_extents (overflow_of s) f.file.id (byte_of fork) (fork_of fork f.file).extents) pieces) s
        → HasNodesFor (records_coming (extents_of old fork f.file) pieces) (extents_nodes old)
    unfolding overflow_in
    enough_of pieces s e enough = subst (λ (x : Store). HasNodesFor (records_coming (fork_extents (overflow_of x) f.file.id (byte_of fork) (fork_of fork f.file).extents) pieces) x) e enough

    pub surplus_of : (n : ℕ) (s : Store) → s ≡ extents_nodes old → (es : List Extent) → es ≡ surplus n (fork_extents (overflow_of s) f.file.id (byte_of fork) (fork_of fork f.file).extents) → es ≡ surplus n (extents_of old fork f.file)
    unfolding overflow_in
    surplus_of n s e es is = is ∙ ap (λ (x : Store). surplus n (fork_extents (overflow_of x) f.file.id (byte_of fork) (fork_of fork f.file).extents)) e

    pub want_of : (pieces : List Extent) (nodes : NodesWanted) (s : Store) → s ≡ extents_nodes old → (kind : ForkKind) (x : ForkRecord) → kind ≡ kind_of fork → x ≡ fork_of fork f.file
        → IsWantOfNodes (records_coming (extents_through s f.file.id kind x.extents) pieces) s nodes → IsWantOfNodes (records_coming (extents_of old fork f.file) pieces) (extents_nodes old) nodes
    want_of pieces nodes s e kind x k y want =
        subst (λ (t : Store). IsWantOfNodes (records_coming (extents_of old fork f.file) pieces) t nodes) e
        (subst (λ (es : List Extent). IsWantOfNodes (records_coming es pieces) s nodes) (ready.found_are old fork f.file s e kind k x y) want)

    -- no block stands twice in extents that have its blocks and pieces of free ones
    pub once_all : (wanted : ℕ) (pieces : List Extent) → AreFreeOnce (is_used old mdb.bitmap_start) mdb.allocation_blocks wanted pieces → (all : List Extent)
        → ((a : ℕ) → owners (extent_blocks all) a ≤ owners (blocks_of old fork f.file) a + owners (extent_blocks pieces) a) → (b : ℕ) → owners (extent_blocks all) b ≤ 1
    once_all wanted pieces free all has =
        apart.once_all catalog_is_sound total is.choice.choice.id fork r old h is.choice.choice.was is.choice.is wanted pieces (by_mdb (λ (m : Mdb). AreFreeOnce (is_used old m.bitmap_start) m.allocation_blocks wanted pieces) free) all
        (by_file (λ (x : FileRecord). (a : ℕ) → owners (extent_blocks all) a ≤ owners (blocks_of old fork x) a + owners (extent_blocks pieces) a) has)

    -- and they lie in the volume
    pub within_all : (n : ℕ) (pieces : List Extent) → AreExtentsWithin n (extents_of old fork f.file) → AreExtentsWithin n pieces → (all : List Extent)
        → ((a : ℕ) → owners (extent_blocks all) a ≤ owners (blocks_of old fork f.file) a + owners (extent_blocks pieces) a) → AreExtentsWithin n all
    within_all n pieces own come all has = extents_within n all (each_owned (λ (b : ℕ). b < n) (extent_blocks all) low)
      where
        low : (b : ℕ) → 0 < owners (extent_blocks all) b → b < n
        low b some = elim (cases_lt 0 (owners (extent_blocks pieces) b)) [
          | inl came ↦ within_each n b pieces come came
          | inr none ↦ within_each n b (extents_of old fork f.file) own (let sums = has b in omega (arith, sums, none, some))
        ]

    -- ---- the edits, one over the other

    module _ (wanted : ℕ) (pieces : List Extent) (free : AreFreeOnce (is_used old mdb.bitmap_start) mdb.allocation_blocks wanted pieces)
        (all : List Extent) (has : (a : ℕ) → owners (extent_blocks all) a ≤ owners (blocks_of old fork f.file) a + owners (extent_blocks pieces) a)
        (b0 : Blocks) (data_same : KeepsBesideBlocks (block_numbers mdb all) old b0)
        (b1 : Blocks) (bits_beside : (k : ℕ) → (k < mdb.bitmap_start) ⊎ (mdb.bitmap_start + bitmap_len mdb.allocation_blocks ≤ k) → b1 k ≡ b0 k) where
      free_old : AreFreeOnce (is_used old (mdb_in old).bitmap_start) (mdb_in old).allocation_blocks wanted pieces
      free_old = by_mdb (λ (m : Mdb). AreFreeOnce (is_used old m.bitmap_start) m.allocation_blocks wanted pieces) free

      has_old : (a : ℕ) → owners (extent_blocks all) a ≤ owners (blocks_of old fork (file_record_of r.1)) a + owners (extent_blocks pieces) a
      has_old = by_file (λ (x : FileRecord). (a : ℕ) → owners (extent_blocks all) a ≤ owners (blocks_of old fork x) a + owners (extent_blocks pieces) a) has

      data_old : KeepsBesideBlocks (block_numbers (mdb_in old) all) old b0
      data_old = by_mdb (λ (m : Mdb). KeepsBesideBlocks (block_numbers m all) old b0) data_same

      beside_old : (k : ℕ) → (k < (mdb_in old).bitmap_start) ⊎ ((mdb_in old).bitmap_start + bitmap_len (mdb_in old).allocation_blocks ≤ k) → b1 k ≡ b0 k
      beside_old = by_mdb (λ (m : Mdb). (k : ℕ) → (k < m.bitmap_start) ⊎ (m.bitmap_start + bitmap_len m.allocation_blocks ≤ k) → b1 k ≡ b0 k) bits_beside

      pub first_nodes : nodes_in b1 extents ≡ extents_nodes old
      first_nodes = assembled.nodes_first total is.choice.choice.id fork r old h is.choice.choice.was is.choice.is extents catalog v.extents_file v.catalog_file wanted pieces free_old all has_old b0 data_old b1 beside_old

      module _ (b2 : Blocks) (edits : EditsFork f.file.id (byte_of fork) (nodes_in b1 extents) (nodes_in b2 extents)) (side : beside (flat_map run_of extents) b2 ≡ beside (flat_map run_of extents) b1) where
        edits_old : EditsFork (file_record_of r.1).id (byte_of fork) (nodes_in b1 extents) (nodes_in b2 extents)
        edits_old = by_file (λ (x : FileRecord). EditsFork x.id (byte_of fork) (nodes_in b1 extents) (nodes_in b2 extents)) edits

        pub second_nodes : nodes_in b2 catalog ≡ catalog_nodes old
        second_nodes = assembled.nodes_second total is.choice.choice.id fork r old h is.choice.choice.was is.choice.is extents catalog v.extents_file v.catalog_file wanted pieces free_old all has_old b0 data_old b1 beside_old b2 edits_old side

        module _ (size len now left : ℕ) (size_is : size ≡ mdb.allocation_block_size) (first : List Extent) (z : Blocks) (p q : Numbered) (b2_is : over (changes p) z ≡ b2) (counts : Mdb) (counts_is : counts ≡ counts_with left now mdb)
            (s : Settles f.key (file_with size fork len first now f.file) counts old z catalog p q) where
          abbrev SettlesOf : CatKey → ℕ → FileRecord → Mdb → Blocks → Type 0
          SettlesOf key size file counts b = assembled.SettlesBlocks key (file_with size fork len first now file) counts (old 2) catalog b z (changes q)

          plain : SettlesOf f.key size f.file counts (over (changes p) z)
          plain = record { p = changes s.middle; set = s.set; value = s.value; side = s.beside; put = s.put }

          settled_old : SettlesOf r.0 (mdb_in old).allocation_block_size (file_record_of r.1) (counts_with left now (mdb_in old)) b2
          settled_old =
              subst (λ (k : CatKey). SettlesOf k (mdb_in old).allocation_block_size (file_record_of r.1) (counts_with left now (mdb_in old)) b2) (sym is.choice.own_key)
              (by_file (λ (x : FileRecord). SettlesOf f.key (mdb_in old).allocation_block_size x (counts_with left now (mdb_in old)) b2)
              (by_mdb (λ (m : Mdb). SettlesOf f.key m.allocation_block_size f.file (counts_with left now m) b2)
              (subst (λ (n : ℕ). SettlesOf f.key n f.file (counts_with left now mdb) b2) size_is
              (subst (λ (c : Mdb). SettlesOf f.key size f.file c b2) counts_is
              (subst (SettlesOf f.key size f.file counts) b2_is plain)))))

          pub directory_is : mdb_in (over (changes q) z) ≡ with_counts counts (mdb_in old)
          directory_is =
              assembled.directory total is.choice.choice.id fork r old h is.choice.choice.was is.choice.is extents catalog v.extents_file v.catalog_file wanted pieces free_old all has_old b0 data_old b1 beside_old b2 edits_old side len now left first z (changes q) settled_old
              ∙ ap (λ (c : Mdb). with_counts c (mdb_in old)) (sym (counts_is ∙ ap (counts_with left now) v.directory))

          laid_old : (from count offset : ℕ) (part written : List ℕ) → IsLaidFor fork f.file len all from count offset part written old b0 → IsLaidFor fork (file_record_of r.1) len all from count offset part written old b0
          laid_old from count offset part written = by_file (λ (x : FileRecord). IsLaidFor fork x len all from count offset part written old b0)

          count_old : (k : ℕ) → k ≡ blocks size len → k ≡ blocks (mdb_in old).allocation_block_size len
          count_old k e = e ∙ ap (λ (n : ℕ). blocks n len) (size_is ∙ ap (λ (m : Mdb). m.allocation_block_size) v.directory)

          -- pieces came
          pub gained : all ≡ grown (extents_of old fork f.file) pieces → HasClaimed mdb.bitmap_start mdb.allocation_blocks (extent_blocks pieces) b0 b1
              → HasGrown f.file.id (byte_of fork) (fork_of fork f.file).extents first pieces (nodes_in b1 extents) (nodes_in b2 extents)
              → length (blocks_of old fork f.file) + wanted ≡ blocks size len → left + wanted ≡ mdb.free_blocks
              → (from count offset : ℕ) (part written : List ℕ) → IsLaidFor fork f.file len all from count offset part written old b0 → SetsFork fork r len now offset part written old (over (changes q) z)
          gained all_is claimed grows enough fewer from count offset part written laid =
              assembled.gained total is.choice.choice.id fork r old h is.choice.choice.was is.choice.is extents catalog v.extents_file v.catalog_file wanted pieces free_old all has_old b0 data_old b1 beside_old b2 edits_old side len now left first z (changes q) settled_old
              (by_file (λ (x : FileRecord). all ≡ grown (extents_of old fork x) pieces) all_is)
              (by_mdb (λ (m : Mdb). HasClaimed m.bitmap_start m.allocation_blocks (extent_blocks pieces) b0 b1) claimed)
              (by_file (λ (x : FileRecord). HasGrown x.id (byte_of fork) (fork_of fork x).extents first pieces (nodes_in b1 extents) (nodes_in b2 extents)) grows)
              (by_file (λ (x : FileRecord). length (blocks_of old fork x) + wanted ≡ blocks (mdb_in old).allocation_block_size len) (count_old _ enough))
              (fewer ∙ ap (λ (m : Mdb). m.free_blocks) v.directory)
              from count offset part written (laid_old from count offset part written laid)

          -- blocks went
          pub lessened : (n : ℕ) → n ≡ blocks size len → all ≡ cut n (extents_of old fork f.file) → (short : ShortFork) → short.first ≡ first
              → HasReleased mdb.bitmap_start mdb.allocation_blocks (extent_blocks short.surplus.items) b0 b1
              → HasShortened f.file.id (byte_of fork) (fork_of fork f.file).extents n short (nodes_in b1 extents) (nodes_in b2 extents)
              → n ≤ length (blocks_of old fork f.file) → left + n ≡ mdb.free_blocks + length (blocks_of old fork f.file)
              → (from count offset : ℕ) (part written : List ℕ) → IsLaidFor fork f.file len all from count offset part written old b0 → SetsFork fork r len now offset part written old (over (changes q) z)
          lessened n count_is all_is short first_as lost shortens fewer freed from count offset part written laid =
              assembled.lessened total is.choice.choice.id fork r old h is.choice.choice.was is.choice.is extents catalog v.extents_file v.catalog_file wanted pieces free_old all has_old b0 data_old b1 beside_old b2 edits_old side len now left first z (changes q) settled_old
              n (count_old n count_is) (by_file (λ (x : FileRecord). all ≡ cut n (extents_of old fork x)) all_is) short first_as
              (by_mdb (λ (m : Mdb). HasReleased m.bitmap_start m.allocation_blocks (extent_blocks short.surplus.items) b0 b1) lost)
              (by_file (λ (x : FileRecord). HasShortened x.id (byte_of fork) (fork_of fork x).extents n short (nodes_in b1 extents) (nodes_in b2 extents)) shortens)
              (by_file (λ (x : FileRecord). n ≤ length (blocks_of old fork x)) fewer)
              (by_file (λ (x : FileRecord). left + n ≡ (mdb_in old).free_blocks + length (blocks_of old fork x)) (freed ∙ ap (λ (m : Mdb). m.free_blocks + length (blocks_of old fork f.file)) v.directory))
              from count offset part written (laid_old from count offset part written laid)
