-- The blocks of files' forks: none is one of the volume's own, and none is one of another file's.
use Rattle.std.proofs.Common.{◌≡◌, ⊎_elim, ℕ, ◌+◌, ◌<◌, ◌≤◌, Bool, true, false, cond, List, [], ◌∷◌, ◌++◌, refl, sym, ap, subst, ◌∙◌, arith}
use Rattle.std.specs.Prelude.{◌&&◌}
use Rattle.std.proofs.lemmas.Bool.{and_parts}
use Rattle.hfs_fields.specs.declared.mdb.Mdb.{Mdb}
use Rattle.hfs_fields.specs.declared.extent.Extent.{Extent}
use Rattle.hfs_fields.specs.declared.file_record.FileRecord.{FileRecord}
use Rattle.hfs_fields.specs.Records.{is_file, item_id, file_record_of}
use Rattle.hfs_fields.specs.Each.{Each}
use Rattle.hfs_fields.specs.Members.{In}
use Rattle.hfs_fields.proofs.ElementLemmas.{each-append}
use Rattle.hfs_fields.proofs.MemberLemmas.{each_in}
use Rattle.hfs_fields.proofs.PartLemmas.{in_parts, flat-each}
use Rattle.hfs_btree.specs.Sound.{IsOther}
use Rattle.hfs_space.proofs.OwnedOnce.{distinct-once}
use Rattle.hfs_space.proofs.OwnedLemmas.{blocks-append}
use Rattle.hfs_space.specs.declared.fork_kind.ForkKind.TheVariants.{Data, Resource}
use Rattle.hfs_space.specs.Bitmap.{bitmap_len}
use Rattle.hfs_space.specs.Extents.{Overflow, extent_blocks, fork_byte, fork_extents}
use Rattle.hfs_space.specs.ForkLaws.{block_numbers}
use Rattle.hfs_space.specs.Forks.{blocks_each}
use Rattle.hfs_space.specs.Owners.{forks_of_file, owned_blocks, owners}
use Rattle.hfs_space.specs.TreeFiles.{tree_blocks}
use Rattle.hfs_catalog.specs.Records.{Record, Catalog}
use Rattle.hfs_check.specs.Agree.{bitmap_blocks}
use Rattle.hfs_check.specs.Parts.{Blocks, mdb_in, overflow_in, extents_blocks, catalog_extents, catalog_blocks, catalog_in, owned_in}
use Rattle.hfs_check.specs.Sound.{AreBlocksSound}
use Rattle.hfs_record_edits.proofs.Frames.{block_in, beside_file, each_range}
use Rattle.hfs_record_edits.proofs.Space.{forks_have, others_have, owners_sum, record_has}
use Rattle.hfs_image.specs.Laws.{blocks_of_fork}
use Rattle.hfs_call_patches.proofs.Overflows.{in_flat}
use Rattle.hfs_call_patches.proofs.Different.{each-take}
use Rattle.hfs_volume.proofs.OwnedStay.{each_of}
use Rattle.hfs_put.specs.Forks.{file_blocks, record_blocks, blocks_of_files}
use Rattle.hfs_put.proofs.Located.{located, one-has, two-have}

-- the blocks from which all is read but the bytes of forks
abbrev pub own_blocks : Blocks → List ℕ
own_blocks blocks = 2 ∷ bitmap_blocks (mdb_in blocks) ++ (extents_blocks blocks ++ catalog_blocks blocks)

-- no number of the one list is in the other
pub other-way : (n : ℕ) (ns : List ℕ) → ((m : ℕ) → In m ns → n ≡ m → ⊥) → Each (IsOther n) ns
other-way n ns apart = each_of (IsOther n) ns (λ m i (e : m ≡ n). apart m i (sym e))

module _ (total : ℕ) (blocks : Blocks) (sound : AreBlocksSound total blocks) where
  abbrev mdb : Mdb
  mdb = mdb_in blocks

  abbrev overflow : Overflow
  overflow = overflow_in blocks

  abbrev catalog : Catalog
  catalog = catalog_in blocks

  -- the block is one of a fork of the record's file
  record IsOf (r : Record) (n : ℕ) : Type 0 where
    block : ℕ
    place : ℕ
    within : place < blocks_each mdb
    is : block_in mdb block place ≡ n
    has : 0 < record_has mdb overflow block r

  abbrev data_extents : FileRecord → List Extent
  data_extents file = fork_extents overflow file.id (fork_byte Data) file.«data».extents

  abbrev resource_extents : FileRecord → List Extent
  resource_extents file = fork_extents overflow file.id (fork_byte Resource) file.resource.extents

  -- the forks of a file have what its extents have
  both-have : (r : Record) (b : ℕ) → is_file r.1 ≡ true
      → record_has mdb overflow b r ≡ owners (extent_blocks (data_extents (file_record_of r.1))) b + owners (extent_blocks (resource_extents (file_record_of r.1))) b
  unfolding forks_of_file
  both-have r b file =
      let f = file_record_of r.1 in
      ap (λ (t : Bool). forks_have mdb overflow b (cond t (forks_of_file f) [])) file
      ∙ blocks-append (data_extents f) (resource_extents f ++ []) b
      ∙ ap (λ (k : ℕ). owners (extent_blocks (data_extents f)) b + k) (blocks-append (resource_extents f) [] b ∙ plus (owners (extent_blocks (resource_extents f)) b))
    where
      plus : (k : ℕ) → k + owners (extent_blocks []) b ≡ k
      plus k = omega arith

  is-of : (r : Record) → is_file r.1 ≡ true → (n : ℕ) → In n (file_blocks blocks (file_record_of r.1)) → IsOf r n
  unfolding blocks_of_fork
  is-of r file n i = ⊎_elim
      (λ (here : In n (block_numbers mdb (data_extents (file_record_of r.1)))).
      let at = located mdb (data_extents (file_record_of r.1)) n here in
      record { block = at.block; place = at.place; within = at.within; is = at.is; has = omega (arith, at.owned, both-have r at.block file) })
      (λ (there : In n (block_numbers mdb (resource_extents (file_record_of r.1)))).
      let at = located mdb (resource_extents (file_record_of r.1)) n there in
      record { block = at.block; place = at.place; within = at.within; is = at.is; has = omega (arith, at.owned, both-have r at.block file) })
      (in_parts n (block_numbers mdb (data_extents (file_record_of r.1))) (block_numbers mdb (resource_extents (file_record_of r.1))) i)

  -- nobody else has it
  at-most-one : (b : ℕ) → owners (owned_blocks mdb overflow catalog) b ≤ 1
  unfolding owned_in
  at-most-one b = distinct-once (owned_blocks mdb overflow catalog) sound.space.once b

  no-tree : (r : Record) (b : ℕ) → In r catalog → 0 < record_has mdb overflow b r → others_have mdb overflow b ≡ 0
  no-tree r b there some = omega (arith, some, one-has mdb overflow b catalog r there, owners_sum mdb overflow b catalog, at-most-one b)

  no-other : (test : Record → Bool) (r s : Record) (b : ℕ) → In r catalog → In s catalog → test r ≡ true → test s ≡ false
      → 0 < record_has mdb overflow b s → record_has mdb overflow b r ≡ 0
  no-other test r s b there too passes fails some =
      omega (arith, some, two-have mdb overflow b test catalog r s there too passes fails, owners_sum mdb overflow b catalog, at-most-one b)

  -- ---- none is one of the volume's own

  beside-own : (r : Record) (n : ℕ) → In r catalog → IsOf r n → Each (IsOther n) (own_blocks blocks)
  unfolding extents_blocks catalog_blocks tree_blocks catalog_extents
  beside-own r n there of =
      let none = no-tree r of.block there of.has in
      let behind : mdb.allocation_start ≤ n = omega (arith, of.is) in
      let beside = λ (extents : List Extent) (free : owners (extent_blocks extents) of.block ≡ 0).
      subst (λ (m : ℕ). Each (IsOther m) (block_numbers mdb extents)) of.is (beside_file mdb extents of.block of.place of.within free) in (
        λ (two : 2 ≡ n). omega (arith, two, behind, sound.mdb.bitmap_behind, sound.mdb.bitmap_before),
        each-append (IsOther n) (bitmap_blocks mdb) (extents_blocks blocks ++ catalog_blocks blocks)
            (each_range (IsOther n) mdb.bitmap_start (bitmap_len mdb.allocation_blocks)
            (λ j lt (same : mdb.bitmap_start + j ≡ n). omega (arith, same, lt, behind, sound.mdb.bitmap_before)))
            (each-append (IsOther n) (extents_blocks blocks) (catalog_blocks blocks)
            (each-take (IsOther n) _ (block_numbers mdb mdb.extents_file) (beside mdb.extents_file (omega (arith, none))))
            (each-take (IsOther n) _ (block_numbers mdb (catalog_extents blocks)) (beside (catalog_extents blocks) (omega (arith, none))))),
      )

  -- ---- of some files

  module _ (ids : ℕ → Bool) where
    abbrev test : Record → Bool
    test r = is_file r.1 && ids (item_id r.1)

    -- a record whose file has the block
    record IsTheirs (n : ℕ) : Type 0 where
      of : Record
      there : In of catalog
      passes : test of ≡ true
      block : IsOf of n

    is-theirs : (n : ℕ) → In n (blocks_of_files ids blocks) → IsTheirs n
    is-theirs n i =
        let at = in_flat (record_blocks ids blocks) catalog n i in
        by at.0 at.1 (test at.0) refl at.2
      where
        by : (r : Record) → In r catalog → (b : Bool) → test r ≡ b → In n (cond b (file_blocks blocks (file_record_of r.1)) []) → IsTheirs n
        by r there true passes i =
            record { of = r; there = there; passes = passes; block = is-of r (and_parts (is_file r.1) (ids (item_id r.1)) passes).0 n i }
        by r there false passes i = absurd i

    -- each of the volume's own blocks is another
    pub own-beside : (w : ℕ) → In w (own_blocks blocks) → Each (IsOther w) (blocks_of_files ids blocks)
    own-beside w iw = other-way w (blocks_of_files ids blocks) (λ n i same.
        let of = is-theirs n i in
        each_in (IsOther n) (own_blocks blocks) w (beside-own of.of n of.there of.block) iw same)

    -- and so is each of another file's
    apart-file : (r s : Record) (n : ℕ) → In r catalog → In s catalog → test r ≡ true → test s ≡ false → IsOf s n
        → Each (IsOther n) (file_blocks blocks (file_record_of r.1))
    unfolding blocks_of_fork
    apart-file r s n there too passes fails of =
        let file = (and_parts (is_file r.1) (ids (item_id r.1)) passes).0 in
        let none = no-other test r s of.block there too passes fails of.has in
        let both = both-have r of.block file in
        let beside = λ (extents : List Extent) (free : owners (extent_blocks extents) of.block ≡ 0).
        subst (λ (m : ℕ). Each (IsOther m) (block_numbers mdb extents)) of.is (beside_file mdb extents of.block of.place of.within free) in
        each-append (IsOther n) (block_numbers mdb (data_extents (file_record_of r.1))) (block_numbers mdb (resource_extents (file_record_of r.1)))
        (beside (data_extents (file_record_of r.1)) (omega (arith, none, both)))
        (beside (resource_extents (file_record_of r.1)) (omega (arith, none, both)))

    apart-record : (s : Record) (n : ℕ) → In s catalog → test s ≡ false → IsOf s n → (r : Record) → In r catalog → Each (IsOther n) (record_blocks ids blocks r)
    apart-record s n too fails of r there = by (test r) refl
      where
        by : (b : Bool) → test r ≡ b → Each (IsOther n) (cond b (file_blocks blocks (file_record_of r.1)) [])
        by true passes = apart-file r s n there too passes fails of
        by false passes = tt

    pub file-beside : (s : Record) → In s catalog → is_file s.1 ≡ true → ids (item_id s.1) ≡ false → (n : ℕ) → In n (file_blocks blocks (file_record_of s.1))
        → Each (IsOther n) (blocks_of_files ids blocks)
    file-beside s too file out n i =
        let fails : test s ≡ false = (λ j. file j && ids (item_id s.1)) ∙ out in
        flat-each (IsOther n) (record_blocks ids blocks) catalog
        (each_of (λ (r : Record). Each (IsOther n) (record_blocks ids blocks r)) catalog (λ r there. apart-record s n too fails (is-of s file n i) r there))
