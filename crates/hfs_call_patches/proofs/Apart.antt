-- The blocks of a fork to which others come are the volume's, each once, and none of them is one of the two trees' files.
use Rattle.std.proofs.Common.{◌≡◌, inl, inr, ℕ, ◌+◌, ◌*◌, ◌<◌, ◌≤◌, true, List, [], ◌∷◌, ◌++◌, refl, sym, ◌∙◌, ap, subst, arith, Some}
use Rattle.std.specs.List.{flat_map, range_with_len}
use Rattle.std.proofs.lemmas.Bool.{cases_lt, true≢false}
use Rattle.hfs_fields.specs.declared.mdb.Mdb.{Mdb}
use Rattle.hfs_fields.specs.declared.extent.Extent.{Extent}
use Rattle.hfs_fields.specs.declared.file_record.FileRecord.{FileRecord}
use Rattle.hfs_fields.specs.Records.{is_file, file_record_of}
use Rattle.hfs_fields.specs.Each.{Each}
use Rattle.hfs_fields.proofs.ElementLemmas.{each-append, each-mono}
use Rattle.hfs_fields.proofs.PartLemmas.{flat-each}
use Rattle.hfs_btree.specs.Sound.{IsOther}
use Rattle.hfs_space.proofs.OwnedLemmas.{blocks-append}
use Rattle.hfs_space.specs.Bitmap.{is_used}
use Rattle.hfs_space.specs.Extents.{Overflow, extent_blocks, IsExtentWithin, AreExtentsWithin}
use Rattle.hfs_space.specs.Forks.{blocks_each}
use Rattle.hfs_space.specs.ForkLaws.{block_numbers}
use Rattle.hfs_space.specs.Owners.{forks_of_file, owners}
use Rattle.hfs_space.proofs.Decided.{each_from_all}
use Rattle.hfs_space.proofs.OwnedOnce.{each-range}
use Rattle.hfs_space.proofs.OwnerLemmas.{append}
use Rattle.hfs_space.specs.Choice.{AreFreeOnce}
use Rattle.hfs_model.specs.declared.call.Fork.{Fork}
use Rattle.hfs_model.specs.declared.call.Fork.TheVariants.{DataFork, ResFork}
use Rattle.hfs_catalog.specs.Records.{Record, item_with}
use Rattle.hfs_check.specs.Parts.{Blocks, mdb_in, overflow_in, catalog_extents, catalog_in, owned_in}
use Rattle.hfs_check.specs.Sound.{AreBlocksSound}
use Rattle.hfs_check.proofs.LawTypes.{CatalogIsSound}
use Rattle.hfs_record_edits.proofs.CatalogEdits.{part_of_sum}
use Rattle.hfs_record_edits.proofs.DeletedFrames.{once}
use Rattle.hfs_record_edits.proofs.Frames.{each_range, block_in, beside_file}
use Rattle.hfs_record_edits.proofs.Space.{record_has, forks_have, owners_sum, owned_each, each_owned}
use Rattle.hfs_call_patches.proofs.Different.{numbers-are}
use Rattle.hfs_call_patches.specs.Edits.{extents_of, blocks_of}
use Rattle.hfs_call_patches.proofs.SoundForks as sounds

-- ---- the logical blocks of a file, by its allocation blocks

each_row : (mdb : Mdb) (P : ℕ → Type 0) (cs : List ℕ) → Each (λ a. (j : ℕ) → j < blocks_each mdb → P (block_in mdb a j)) cs → Each P (flat_map (λ a. range_with_len (mdb.allocation_start + a * blocks_each mdb) (blocks_each mdb)) cs)
each_row mdb P [] h = tt
each_row mdb P (c ∷ cs) h =
    each-append P (range_with_len (mdb.allocation_start + c * blocks_each mdb) (blocks_each mdb)) (flat_map (λ a. range_with_len (mdb.allocation_start + a * blocks_each mdb) (blocks_each mdb)) cs)
    (each_range P (mdb.allocation_start + c * blocks_each mdb) (blocks_each mdb) h.0)
    (each_row mdb P cs h.1)

pub each_number : (mdb : Mdb) (P : ℕ → Type 0) (file : List Extent) → ((a j : ℕ) → 0 < owners (extent_blocks file) a → j < blocks_each mdb → P (block_in mdb a j)) → Each P (block_numbers mdb file)
each_number mdb P file h =
    subst (Each P) (sym (numbers-are mdb file))
    (each_row mdb P (extent_blocks file) (each_owned (λ a. (j : ℕ) → j < blocks_each mdb → P (block_in mdb a j)) (extent_blocks file) (λ a some j low. h a j some low)))

-- files that have no block in common have none of their logical blocks in common
pub rows_apart : (mdb : Mdb) (file other : List Extent) → ((a : ℕ) → 0 < owners (extent_blocks other) a → owners (extent_blocks file) a ≡ 0) → Each (λ n. Each (IsOther n) (block_numbers mdb other)) (block_numbers mdb file)
rows_apart mdb file other apart = each_number mdb (λ n. Each (IsOther n) (block_numbers mdb other)) file (λ a j some low. beside_file mdb other a j low (none a some))
  where
    none : (a : ℕ) → 0 < owners (extent_blocks file) a → owners (extent_blocks other) a ≡ 0
    none a some = elim (cases_lt 0 (owners (extent_blocks other) a)) [
      | inl both ↦ absurd (let not = apart a both in omega (arith, some, not))
      | inr zero_one ↦ omega (arith, zero_one)
    ]

-- a fork to which pieces come has its blocks and theirs
pub with_pieces : (all : List Extent) (was pieces : List ℕ) → extent_blocks all ≡ was ++ pieces → (a : ℕ) → owners (extent_blocks all) a ≤ owners was a + owners pieces a
with_pieces all was pieces made a = let sums : owners (extent_blocks all) a ≡ owners was a + owners pieces a = ap (λ (l : List ℕ). owners l a) made ∙ append a was pieces in omega (arith, sums)

-- ---- a fork of a file has no more than the file has

fork_part : (mdb : Mdb) (old : Blocks) (b : ℕ) (fork : Fork) (f : FileRecord) → owners (blocks_of old fork f) b ≤ forks_have mdb (overflow_in old) b (forks_of_file f)
unfolding forks_of_file
fork_part mdb old b DataFork f =
    let one = extents_of old DataFork f in
    let two = extents_of old ResFork f in
    let none : owners (extent_blocks []) b ≡ 0 = refl in
    omega (arith, blocks-append one (two ++ []) b, blocks-append two [] b, none)
fork_part mdb old b ResFork f =
    let one = extents_of old DataFork f in
    let two = extents_of old ResFork f in
    let none : owners (extent_blocks []) b ≡ 0 = refl in
    omega (arith, blocks-append one (two ++ []) b, blocks-append two [] b, none)

module _ (catalogs : CatalogIsSound) (total id : ℕ) (fork : Fork) (r : Record) (old : Blocks) (h : AreBlocksSound total old) (was : item_with (catalog_in old) id ≡ Some r) (is : is_file r.1 ≡ true)
    (wanted : ℕ) (pieces : List Extent) (free : AreFreeOnce (is_used old (mdb_in old).bitmap_start) (mdb_in old).allocation_blocks wanted pieces)
    (all : List Extent) (has : (a : ℕ) → owners (extent_blocks all) a ≤ owners (blocks_of old fork (file_record_of r.1)) a + owners (extent_blocks pieces) a) where
  abbrev mdb : Mdb
  mdb = mdb_in old

  abbrev f : FileRecord
  f = file_record_of r.1

  abbrev o : Overflow
  o = overflow_in old

  abbrev trees : ℕ → ℕ
  trees a = owners (extent_blocks (catalog_extents old)) a + owners (extent_blocks mdb.extents_file) a

  own_bound : (a : ℕ) → owners (blocks_of old fork f) a + trees a ≤ 1
  own_bound a =
      let forks : record_has mdb o a r ≡ forks_have mdb o a (forks_of_file f) = ap (forks_have mdb o a) (sounds.forks_r catalogs total id fork r old h was is) in
      let there = (sounds.own catalogs total id fork r old h was is).0 in
      let part = part_of_sum (record_has mdb o a) (catalog_in old) r there in
      let one = once total old h a in
      omega (arith, forks, part, one, fork_part mdb old a fork f)

  trees_owned : (a : ℕ) → trees a ≤ owners (owned_in old) a
  unfolding owned_in catalog_extents
  trees_owned a = let sums = owners_sum mdb o a (catalog_in old) in omega (arith, sums)

  piece_free : (a : ℕ) → 0 < owners (extent_blocks pieces) a → owners (owned_in old) a ≡ 0
  piece_free a came = elim (cases_lt 0 (owners (owned_in old) a)) [
    | inl some ↦ absurd (true≢false (sym (owned_each (λ b. is_used old mdb.bitmap_start b ≡ true) (owned_in old) h.space.marked a some) ∙ free.free a came))
    | inr none ↦ omega (arith, none)
  ]

  far : (a : ℕ) → 0 < owners (extent_blocks all) a → trees a ≡ 0
  far a some = elim (cases_lt 0 (owners (extent_blocks pieces) a)) [
    | inl came ↦ (let none = piece_free a came in let most = trees_owned a in omega (arith, none, most))
    | inr none ↦ (let sums = has a in let most = own_bound a in omega (arith, none, sums, most, some))
  ]

  -- no block stands twice in the fork
  pub once_all : (a : ℕ) → owners (extent_blocks all) a ≤ 1
  once_all a = elim (cases_lt 0 (owners (extent_blocks pieces) a)) [
    | inl came ↦ (let none = piece_free a came in let owns = sounds.own_owns catalogs total id fork r old h was is a in let sums = has a in let one = free.once a in omega (arith, none, owns, sums, one))
    | inr none ↦ (let sums = has a in let one = sounds.own_once catalogs total id fork r old h was is a in omega (arith, none, sums, one))
  ]

  -- nor in the file of a tree
  pub extents_apart : Each (λ n. Each (IsOther n) (block_numbers mdb all)) (block_numbers mdb mdb.extents_file)
  extents_apart = rows_apart mdb mdb.extents_file all (λ a some. let none = far a some in omega (arith, none))

  pub catalog_apart : Each (λ n. Each (IsOther n) (block_numbers mdb all)) (block_numbers mdb (catalog_extents old))
  catalog_apart = rows_apart mdb (catalog_extents old) all (λ a some. let none = far a some in omega (arith, none))

-- a block of extents that lie in the volume is the volume's
pub pieces_within : (n : ℕ) (es : List Extent) → AreExtentsWithin n es → (b : ℕ) → 0 < owners (extent_blocks es) b → b < n
pieces_within n es within b some = owned_each (λ (x : ℕ). x < n) (extent_blocks es) (flat-each (λ (x : ℕ). x < n) (λ (e : Extent). range_with_len e.first e.count) es
    (each-mono _ _ es (λ e inside. each-range (λ (x : ℕ). x < n) e.first e.count (λ x from to. omega (arith, inside (omega (arith, from, to)), to))) (each_from_all (IsExtentWithin n) es within))) b some
