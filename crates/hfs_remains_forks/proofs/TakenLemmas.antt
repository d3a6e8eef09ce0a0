-- No fork of a sound volume is left: no two own a block, so that together they have no more bytes than the volume.
use Rattle.std.proofs.Common.{◌≡◌, ℕ, ◌+◌, ◌-◌, ◌*◌, ◌≤◌, Bool, true, false, cond, if◌then◌else◌, List, [], ◌∷◌, ◌++◌, map, length, length-append, Option, Some, None, refl, ap, ◌∙◌, arith}
use Rattle.std.specs.Prelude.{nat_le}
use Rattle.std.specs.List.{flat_map}
use Rattle.std.proofs.Math.Nat.{add-mul, mul-le-mul_right}
use Rattle.std.proofs.lemmas.Bool.{le-leb}
use Rattle.std.proofs.lemmas.List.Concat.{flat_map-append}
use Rattle.hfs_fields.specs.declared.mdb.Mdb.{Mdb}
use Rattle.hfs_fields.specs.declared.extent.Extent.{Extent}
use Rattle.hfs_fields.specs.Records.{is_file, is_item, file_record_of}
use Rattle.hfs_fields.specs.Each.{Each}
use Rattle.hfs_btree_edits.proofs.FewRecords.{few-below}
use Rattle.hfs_catalog.specs.Records.{Record, Catalog, items_of as items_in}
use Rattle.hfs_space.specs.Extents.{Overflow, extent_blocks}
use Rattle.hfs_space.specs.Forks.{blocks_each}
use Rattle.hfs_space.specs.Owners.{bad_extents, catalog_fork, extents_in, forks_of, forks_of_file, owned_blocks, owned_extents}
use Rattle.hfs_space.specs.Sound.{IsForkSound}
use Rattle.hfs_space.proofs.ForkLengthLemmas.{byte_total}
use Rattle.hfs_space.proofs.LawsProved.{owned_are_within}
use Rattle.hfs_check.specs.Parts.{Blocks, catalog_extents, catalog_in, mdb_in, overflow_in, owned_in}
use Rattle.hfs_check.specs.Sound.{AreBlocksSound}
use Rattle.hfs_remains.specs.declared.catalog.FoundRecord.{FoundRecord}
use Rattle.hfs_remains.specs.CatalogRecords.{found}
use Rattle.hfs_remains_forks.specs.declared.forks.Fork.{Fork}
use Rattle.hfs_remains_forks.specs.declared.shares.FileShares.{FileShares}
use Rattle.hfs_remains_forks.specs.Forks.{both_forks, fork_length, fork_of}
use Rattle.hfs_remains_forks.specs.Verdicts.{item_shares, room_behind, room_behind_item, shares_of}
use Rattle.hfs_remains_forks.proofs.BlockLemmas.{blocks-counted}
use Rattle.hfs_remains_forks.specs.Laws.{SoundForksAreTaken, whole_shares}

-- ---- where there is room for all

abbrev forks-len : Option (Fork × Fork) → ℕ
forks-len None = 0
forks-len (Some forks) = forks.0.len + forks.1.len

abbrev lengths : List FoundRecord → ℕ
lengths [] = 0
lengths (item ∷ items) = forks-len (both_forks item.entry.1) + lengths items

short : (records : Overflow) (mdb : Mdb) (fork : Fork) → fork_length records mdb fork ≤ fork.len
unfolding fork_length
short records mdb fork = omega arith

module _ (records : Overflow) (mdb : Mdb) where
  item-fits : (old : Bool) (forks : Option (Fork × Fork)) (room : ℕ) (items : List FoundRecord) (rest : List (Option FileShares))
      → ((left : ℕ) → lengths items ≤ left → shares_of records mdb left items ≡ rest) → forks-len forks + lengths items ≤ room
      → item_shares records mdb room old forks ∷ shares_of records mdb (room_behind_item records mdb room forks) items ≡ whole_shares old forks ∷ rest
  item-fits old None room items rest others fits = ap (λ (l : List (Option FileShares)). None ∷ l) (others room (omega (arith, fits)))
  item-fits old (Some forks) room items rest others fits =
      let first : nat_le (fork_length records mdb forks.0) room ≡ true = le-leb (fork_length records mdb forks.0) room (omega (arith, fits, short records mdb forks.0)) in
      let left : room_behind records mdb room forks.0 ≡ room - fork_length records mdb forks.0 =
      ap (λ (b : Bool). if b then room - fork_length records mdb forks.0 else room) first in
      let second : nat_le (fork_length records mdb forks.1) (room_behind records mdb room forks.0) ≡ true =
      le-leb (fork_length records mdb forks.1) (room_behind records mdb room forks.0) (omega (arith, fits, left, short records mdb forks.0, short records mdb forks.1)) in
      let behind : room_behind records mdb (room_behind records mdb room forks.0) forks.1 ≡ room_behind records mdb room forks.0 - fork_length records mdb forks.1 =
      ap (λ (b : Bool). if b then room_behind records mdb room forks.0 - fork_length records mdb forks.1 else room_behind records mdb room forks.0) second in
      let more = others (room_behind records mdb (room_behind records mdb room forks.0) forks.1)
      (omega (arith, fits, left, behind, short records mdb forks.0, short records mdb forks.1)) in
      λ i. Some (record { old = old; «data» = record { fork = forks.0; taken = first i }; resource = record { fork = forks.1; taken = second i } }) ∷ more i

  all-fit : (items : List FoundRecord) (room : ℕ) → lengths items ≤ room → shares_of records mdb room items ≡ map (λ (item : FoundRecord). whole_shares item.old (both_forks item.entry.1)) items
  all-fit [] room fits = refl
  all-fit (item ∷ items) room fits =
      item-fits item.old (both_forks item.entry.1) room items (map (λ (other : FoundRecord). whole_shares other.old (both_forks other.entry.1)) items)
      (λ left less. all-fit items left less) fits

-- ---- of a sound volume

abbrev blocks-of : List Extent → ℕ
blocks-of extents = length (extent_blocks extents)

blocks-append : (xs ys : List Extent) → blocks-of (xs ++ ys) ≡ blocks-of xs + blocks-of ys
blocks-append xs ys = ap length (flat_map-append _ xs ys) ∙ length-append (extent_blocks xs) (extent_blocks ys)

module _ (overflow : Overflow) (mdb : Mdb) where
  abbrev own : Record → List Extent
  own r = flat_map (extents_in overflow) (forks_of r)

  abbrev all : Catalog → List Extent
  all catalog = flat_map (extents_in overflow) (flat_map forks_of catalog)

  abbrev size : ℕ
  size = mdb.allocation_block_size

  all-more : (r : Record) (catalog : Catalog) → blocks-of (all (r ∷ catalog)) ≡ blocks-of (own r) + blocks-of (all catalog)
  all-more r catalog = ap blocks-of (flat_map-append (extents_in overflow) (forks_of r) (flat_map forks_of catalog)) ∙ blocks-append (own r) (all catalog)

  -- the blocks of a file's forks have room for their bytes
  both-fit : (r : Record) → Each (IsForkSound mdb overflow) (forks_of_file (file_record_of r.1))
      → (file_record_of r.1).«data».length + (file_record_of r.1).resource.length ≤ blocks-of (flat_map (extents_in overflow) (forks_of_file (file_record_of r.1))) * size
  unfolding forks_of_file
  both-fit r sound =
      let file = file_record_of r.1 in
      let first : List Extent = extents_in overflow (record { file = file.id; fork = 0; len = file.«data».length; first = file.«data».extents }) in
      let second : List Extent = extents_in overflow (record { file = file.id; fork = 255; len = file.resource.length; first = file.resource.extents }) in
      let count : blocks-of (first ++ (second ++ [])) ≡ blocks-of first + (blocks-of second + 0) =
      blocks-append first (second ++ []) ∙ ap (λ (n : ℕ). blocks-of first + n) (blocks-append second []) in
      let sum : blocks-of (first ++ (second ++ [])) * size ≡ blocks-of first * size + blocks-of second * size =
      ap (λ (n : ℕ). n * size) (count ∙ (let e : blocks-of first + (blocks-of second + 0) ≡ blocks-of first + blocks-of second = omega arith in e)) ∙ add-mul (blocks-of first) (blocks-of second) size in
      omega (
        arith,
        sum,
        sound.0.room,
        sound.1.0.room,
        ap (λ (n : ℕ). n * size) (blocks-counted first),
        ap (λ (n : ℕ). n * size) (blocks-counted second),
      )

  file-fits : (r : Record) (b : Bool) → Each (IsForkSound mdb overflow) (if b then forks_of_file (file_record_of r.1) else [])
      → forks-len (if b then Some (fork_of (file_record_of r.1).id 0 (file_record_of r.1).«data», fork_of (file_record_of r.1).id 255 (file_record_of r.1).resource) else None)
      ≤ blocks-of (flat_map (extents_in overflow) (if b then forks_of_file (file_record_of r.1) else [])) * size
  file-fits r true sound = both-fit r sound
  file-fits r false sound = omega arith

  record-fits : (r : Record) → Each (IsForkSound mdb overflow) (forks_of r) → forks-len (both_forks r.1) ≤ blocks-of (own r) * size
  record-fits r sound = file-fits r (is_file r.1) sound

  catalog-fits : (catalog : Catalog) → Each (λ r. Each (IsForkSound mdb overflow) (forks_of r)) catalog → lengths (map (found false) (items_in catalog)) ≤ blocks-of (all catalog) * size
  catalog-fits [] sound = omega arith
  catalog-fits (r ∷ catalog) sound = by (is_item r.1) (record-fits r sound.0) (catalog-fits catalog sound.1)
    where
      whole : blocks-of (all (r ∷ catalog)) * size ≡ blocks-of (own r) * size + blocks-of (all catalog) * size
      whole = ap (λ (n : ℕ). n * size) (all-more r catalog) ∙ add-mul (blocks-of (own r)) (blocks-of (all catalog)) size

      by : (b : Bool) → forks-len (both_forks r.1) ≤ blocks-of (own r) * size → lengths (map (found false) (items_in catalog)) ≤ blocks-of (all catalog) * size
          → lengths (map (found false) (cond b (r ∷ items_in catalog) (items_in catalog))) ≤ blocks-of (all (r ∷ catalog)) * size
      by true here rest = omega (arith, here, rest, whole)
      by false here rest = omega (arith, rest, whole)

  owned-all : (catalog : Catalog) → blocks-of (all catalog) ≤ length (owned_blocks mdb overflow catalog)
  unfolding owned_blocks owned_extents
  owned-all catalog =
      let file : List Extent = extents_in overflow (catalog_fork mdb) in
      let front : List Extent = (file ++ all catalog) ++ mdb.extents_file in
      omega (arith, blocks-append front (bad_extents overflow), blocks-append (file ++ all catalog) mdb.extents_file, blocks-append file (all catalog))

owned-once : (total : ℕ) (blocks : Blocks) → AreBlocksSound total blocks → length (owned_blocks (mdb_in blocks) (overflow_in blocks) (catalog_in blocks)) ≤ (mdb_in blocks).allocation_blocks
unfolding owned_in catalog_extents
owned-once total blocks h =
    few-below (mdb_in blocks).allocation_blocks (owned_blocks (mdb_in blocks) (overflow_in blocks) (catalog_in blocks)) h.space.once
    (owned_are_within (mdb_in blocks) (overflow_in blocks) (catalog_in blocks) h.extents.file h.catalog.file h.forks)

pub forks-taken : SoundForksAreTaken
forks-taken total blocks h room enough =
    let mdb = mdb_in blocks in
    let n : ℕ = blocks-of (all (overflow_in blocks) mdb (catalog_in blocks)) in
    let few : n ≤ mdb.allocation_blocks = omega (arith, owned-all (overflow_in blocks) mdb (catalog_in blocks), owned-once total blocks h) in
    let most : n * mdb.allocation_block_size ≤ mdb.allocation_blocks * mdb.allocation_block_size = mul-le-mul_right mdb.allocation_block_size few in
    let bytes : mdb.allocation_blocks * mdb.allocation_block_size ≡ 512 * (mdb.allocation_blocks * blocks_each mdb) = byte_total mdb mdb.allocation_blocks h.mdb.whole_size in
    all-fit (overflow_in blocks) mdb (map (found false) (items_in (catalog_in blocks))) room
    (omega (arith, catalog-fits (overflow_in blocks) mdb (catalog_in blocks) h.forks.files, most, bytes, h.mdb.area, enough))
