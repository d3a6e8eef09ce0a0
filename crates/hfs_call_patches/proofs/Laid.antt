-- What zeros and bytes over the blocks of a fork make of a sound volume in which the fork has other blocks.
use Rattle.std.proofs.Common.{◌≡◌, inl, inr, ◌⊎◌, ℕ, ◌+◌, ◌*◌, ◌%◌, ◌<◌, ◌≤◌, true, List, [], ◌++◌, length, length-append, take, refl, sym, ◌∙◌, ap, arith, Some}
use Rattle.std.specs.List.{flat_map}
use Rattle.std.proofs.lemmas.Bool.{cases_lt, true≢false}
use Rattle.std.proofs.lemmas.Grind.{flat_map-append}
use Rattle.std.proofs.lemmas.List.{length-map, take_at}
use Rattle.hfs_fields.specs.declared.mdb.Mdb.{Mdb}
use Rattle.hfs_fields.specs.declared.extent.Extent.{Extent}
use Rattle.hfs_fields.specs.declared.file_record.FileRecord.{FileRecord}
use Rattle.hfs_fields.specs.Records.{is_file, file_record_of}
use Rattle.hfs_blocks.specs.Blocks.{nodes_in}
use Rattle.hfs_space.specs.Bitmap.{is_used}
use Rattle.hfs_space.specs.Extents.{Overflow, block_total, extent_blocks, AreExtentsWithin}
use Rattle.hfs_space.specs.Forks.{blocks_each, joined, fork_bytes}
use Rattle.hfs_space.specs.ForkLaws.{block_numbers}
use Rattle.hfs_space.specs.ForkLengths.{all_bytes}
use Rattle.hfs_space.specs.Owners.{extents_in, owners}
use Rattle.hfs_space.proofs.FileLengthLemmas.{length-file_blocks}
use Rattle.hfs_space.proofs.ForkLawLemmas.{allocation_block, file_blocks-in_order}
use Rattle.hfs_space.proofs.ForkLengthLemmas.{byte_total}
use Rattle.hfs_space.proofs.OwnerLemmas.{append}
use Rattle.hfs_model.specs.declared.call.Fork.{Fork}
use Rattle.hfs_catalog.specs.Records.{Record, item_with}
use Rattle.hfs_check.specs.Parts.{Blocks, mdb_in, overflow_in, catalog_extents, catalog_in, owned_in}
use Rattle.hfs_check.specs.Sound.{AreBlocksSound}
use Rattle.hfs_check.specs.VolumeOf.{bytes_in}
use Rattle.hfs_check.proofs.LawTypes.{CatalogIsSound}
use Rattle.hfs_record_edits.proofs.CatalogEdits.{part_of_sum}
use Rattle.hfs_record_edits.proofs.DeletedFrames.{once}
use Rattle.hfs_record_edits.proofs.Frames.{block_in, same_file}
use Rattle.hfs_record_edits.proofs.Space.{record_has, forks_have, owners_sum, owned_each, each_owned}
use Rattle.hfs_space.proofs.WholeLemmas.{all-length}
use Rattle.hfs_call_patches.specs.Files.{fork_of}
use Rattle.hfs_call_patches.specs.Edits.{extents_of, blocks_of, bytes_of}
use Rattle.hfs_call_patches.specs.Laid.{AreFull, ChangesAsCallsDo}
use Rattle.hfs_call_patches.proofs.Beside.{fork_in, other_fork, both_have}
use Rattle.hfs_call_patches.proofs.BesideTrees.{is_beside}
use Rattle.hfs_call_patches.proofs.Moves.{HasBlocks}
use Rattle.hfs_call_patches.proofs.Rooms.{extents_within}
use Rattle.hfs_space.proofs.OwnedLemmas.{length-blocks, blocks-append}
use Rattle.hfs_call_patches.proofs.SoundForks.{own, forks_r, own_owns, own_once, own_sound, own_within}

-- how many blocks of 512 bytes extents have
pub numbers_long : (mdb : Mdb) (es : List Extent) → mdb.allocation_block_size % 512 ≡ 0 → 512 * length (block_numbers mdb es) ≡ length (extent_blocks es) * mdb.allocation_block_size
unfolding nodes_in
numbers_long mdb es whole =
    let blocks : ℕ → List ℕ = λ n. [] in
    let numbers : length (block_numbers mdb es) ≡ block_total es * blocks_each mdb = sym (length-map (block_numbers mdb es) blocks) ∙ length-file_blocks blocks mdb es in
    let size = byte_total mdb (block_total es) whole in
    let count = ap (λ (k : ℕ). k * mdb.allocation_block_size) (length-blocks es) in
    omega (arith, numbers, size, count)

-- how many bytes their blocks have
bytes_long : (total : ℕ) (old : Blocks) (es : List Extent) → AreBlocksSound total old → AreFull total old → AreExtentsWithin (mdb_in old).allocation_blocks es
    → length (all_bytes old (mdb_in old) es) ≡ length (extent_blocks es) * (mdb_in old).allocation_block_size
bytes_long total old es h full within = all-length (mdb_in old) es total old h.mdb.area within full ∙ numbers_long (mdb_in old) es h.mdb.whole_size

-- a fork's bytes are the first of those of its blocks
pub bytes_by : (fork : Fork) (now : FileRecord) (new : Blocks) (mdb : Mdb) (modified free : ℕ) → mdb_in new ≡ record mdb { modified = modified; free_blocks = free }
    → bytes_of new fork now ≡ take (fork_of fork now).length (all_bytes new mdb (extents_of new fork now))
unfolding bytes_in fork_bytes
bytes_by fork now new mdb modified free is = λ i. fork_bytes new (is i) (extents_of new fork now) (fork_of fork now).length

pub bytes_were : (fork : Fork) (f : FileRecord) (old : Blocks) → bytes_of old fork f ≡ take (fork_of fork f).length (all_bytes old (mdb_in old) (extents_of old fork f))
unfolding bytes_in fork_bytes
bytes_were fork f old = refl

module _ (catalogs : CatalogIsSound) (total id : ℕ) (fork : Fork) (r : Record) (n : ℕ) (now : FileRecord) (old new : Blocks) (h : AreBlocksSound total old) (full : AreFull total old)
    (there : item_with (catalog_in old) id ≡ Some r) (is : is_file r.1 ≡ true) (b : HasBlocks fork (file_record_of r.1) now n old new) where
  abbrev was : FileRecord
  was = file_record_of r.1

  abbrev mdb : Mdb
  mdb = mdb_in old

  abbrev size : ℕ
  size = mdb.allocation_block_size

  abbrev o : Overflow
  o = overflow_in old

  -- how many bytes the fork had
  abbrev pub was_length : ℕ
  was_length = (fork_of fork was).length

  abbrev es : List Extent
  es = extents_of new fork now

  -- ---- whose the blocks are

  parts : (a : ℕ) → owners (blocks_of new fork now) a ≡ owners b.moves.stay a + owners b.come a
  parts a = ap (λ (l : List ℕ). owners l a) b.moves.after ∙ append a b.moves.stay b.come

  parts_old : (a : ℕ) → owners (blocks_of old fork was) a ≡ owners b.moves.stay a + owners b.go a
  parts_old a = ap (λ (l : List ℕ). owners l a) b.moves.before ∙ append a b.moves.stay b.go

  come_nobodys : (a : ℕ) → 0 < owners b.come a → owners (owned_in old) a ≡ 0
  come_nobodys a came = elim (cases_lt 0 (owners (owned_in old) a)) [
    | inl some ↦ absurd (true≢false (sym (owned_each (λ x. is_used old mdb.bitmap_start x ≡ true) (owned_in old) h.space.marked a some) ∙ b.moves.free a came))
    | inr none ↦ omega (arith, none)
  ]

  -- no tree's file has one of them
  no_tree : (a : ℕ) → 0 < owners (blocks_of new fork now) a → (owners (extent_blocks (catalog_extents old)) a ≡ 0) × (owners (extent_blocks mdb.extents_file) a ≡ 0)
  unfolding owned_in catalog_extents
  no_tree a some = elim (cases_lt 0 (owners b.come a)) [
    | inl came ↦
        let none = come_nobodys a came in
        let sums = owners_sum mdb o a (catalog_in old) in
        (omega (arith, none, sums), omega (arith, none, sums))
    | inr none ↦
        let mine = own catalogs total id fork r old h there is in
        let has : record_has mdb o a r ≡ owners (blocks_of old fork was) a + owners (extent_blocks (extents_in o (fork_in (other_fork fork) was))) a =
        ap (forks_have mdb o a) (forks_r catalogs total id fork r old h there is) ∙ both_have mdb o a fork was in
        let alone = once total old h a in
        let part = part_of_sum (record_has mdb o a) (catalog_in old) r mine.0 in
        (omega (arith, has, alone, part, parts a, parts_old a, some, none), omega (arith, has, alone, part, parts a, parts_old a, some, none))
  ]

  abbrev trees : List Extent
  trees = catalog_extents old ++ mdb.extents_file

  trees_none : (a : ℕ) → 0 < owners (blocks_of new fork now) a → owners (extent_blocks trees) a ≡ 0
  trees_none a some = let none = no_tree a some in let one = none.0 in let two = none.1 in omega (arith, one, two, blocks-append (catalog_extents old) mdb.extents_file a)

  -- what is laid over them, no other edit changes
  pub laid_stays : (laid later : Blocks) → ChangesAsCallsDo old laid later → all_bytes later mdb es ≡ all_bytes laid mdb es
  laid_stays laid later others =
      ap joined (same_file laid later mdb trees
      (λ a j low none. others (block_in mdb a j) (is_beside total old h a j low (omega (arith, none, blocks-append (catalog_extents old) mdb.extents_file a)) (omega (arith, none, blocks-append (catalog_extents old) mdb.extents_file a))))
      es trees_none)

  -- ---- the bytes of before

  pub new_within : AreExtentsWithin mdb.allocation_blocks es
  new_within = extents_within mdb.allocation_blocks es (each_owned (λ (x : ℕ). x < mdb.allocation_blocks) (blocks_of new fork now) (λ a some. elim (cases_lt 0 (owners b.come a)) [
    | inl came ↦ b.moves.within a came
    | inr none ↦ own_within catalogs total id fork r old h there is a (omega (arith, parts a, parts_old a, some, none))
  ]))

  pub new_once : (a : ℕ) → owners (blocks_of new fork now) a ≤ 1
  new_once a = elim (cases_lt 0 (owners b.come a)) [
    | inl came ↦ omega (arith, parts a, parts_old a, come_nobodys a came, own_owns catalogs total id fork r old h there is a, b.moves.once a)
    | inr none ↦ omega (arith, parts a, parts_old a, none, own_once catalogs total id fork r old h there is a)
  ]

  pub new_numbers : 512 * length (block_numbers mdb es) ≡ n * size
  new_numbers = numbers_long mdb es h.mdb.whole_size ∙ ap (λ (k : ℕ). k * size) b.exact

  abbrev pub had : List ℕ
  had = all_bytes old mdb (extents_of old fork was)

  abbrev pub has : List ℕ
  has = all_bytes old mdb es

  pub had_long : length had ≡ length (blocks_of old fork was) * size
  had_long = bytes_long total old (extents_of old fork was) h full (own_sound catalogs total id fork r old h there is).within

  pub has_long : length has ≡ n * size
  has_long = bytes_long total old es h full new_within ∙ ap (λ (k : ℕ). k * size) b.exact

  abbrev of_blocks : List ℕ → List ℕ
  of_blocks bs = joined (flat_map (allocation_block old mdb) bs)

  of_parts : (xs ys : List ℕ) → of_blocks (xs ++ ys) ≡ of_blocks xs ++ of_blocks ys
  of_parts xs ys = ap joined (flat_map-append (allocation_block old mdb) xs ys) ∙ flat_map-append (λ (x : List ℕ). x) (flat_map (allocation_block old mdb) xs) (flat_map (allocation_block old mdb) ys)

  had_is : had ≡ of_blocks b.moves.stay ++ of_blocks b.go
  had_is = ap joined (file_blocks-in_order old mdb (extents_of old fork was)) ∙ ap of_blocks b.moves.before ∙ of_parts b.moves.stay b.go

  has_is : has ≡ of_blocks b.moves.stay ++ of_blocks b.come
  has_is = ap joined (file_blocks-in_order old mdb es) ∙ ap of_blocks b.moves.after ∙ of_parts b.moves.stay b.come

  -- so many bytes are those of blocks that stay
  abbrev pub same : ℕ
  same = length (of_blocks b.moves.stay)

  pub front : take same had ≡ take same has
  front =
      ap (take same) had_is ∙ take_at (of_blocks b.moves.stay) (of_blocks b.go) same refl
      ∙ sym (ap (take same) has_is ∙ take_at (of_blocks b.moves.stay) (of_blocks b.come) same refl)

  all_stay : (xs : List ℕ) (bs : List ℕ) → xs ≡ of_blocks b.moves.stay ++ of_blocks bs → bs ≡ [] → length xs ≡ same
  all_stay xs bs are none =
      ap (λ (l : List ℕ). length l) (are ∙ ap (λ (l : List ℕ). of_blocks b.moves.stay ++ of_blocks l) none)
      ∙ length-append (of_blocks b.moves.stay) (of_blocks [])
      ∙ (let nothing : length (of_blocks []) ≡ 0 = refl in let e : same + length (of_blocks []) ≡ same = omega (arith, nothing) in e)

  pub held : was_length ≤ length had
  held =
      let room : was_length ≤ block_total (extents_of old fork was) * size = (own_sound catalogs total id fork r old h there is).room in
      let count : length (blocks_of old fork was) * size ≡ block_total (extents_of old fork was) * size = ap (λ (k : ℕ). k * size) (length-blocks (extents_of old fork was)) in
      omega (arith, room, count, had_long)

  -- they are all that the fork had, or all that it has
  pub either : (len : ℕ) → len ≤ n * size → (was_length ≤ same) ⊎ (len ≤ same)
  either len fits = elim b.one_way [
    | inl none ↦ inr (let e = all_stay has b.come has_is none in omega (arith, e, fits, has_long))
    | inr none ↦ inl (let e = all_stay had b.go had_is none in let all = held in omega (arith, e, all))
  ]
