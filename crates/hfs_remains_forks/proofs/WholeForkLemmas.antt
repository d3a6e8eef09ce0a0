-- The forks of a sound volume are whole.
use Rattle.std.proofs.Common.{◌≡◌, ℕ, zero, suc, ◌+◌, ◌-◌, ◌*◌, ◌%◌, ◌<◌, ◌≤◌, Bool, if◌then◌else◌, List, [], ◌∷◌, ◌++◌, map, take, drop, length, length-append, length-drop, replicate, Some, None, refl, sym, ap, subst, ◌∙◌, arith, inl, inr}
use Rattle.std.specs.Prelude.{nat_lt, min}
use Rattle.std.specs.List.{flat_map, range_with_len}
use Rattle.std.proofs.Math.Nat.{add-mul, mul-le-mul_right, suc-mul}
use Rattle.std.proofs.lemmas.Bool.{cases_lt, le-ltb}
use Rattle.std.proofs.lemmas.Grind.{div_ceil_times}
use Rattle.std.proofs.lemmas.List.{length-take-le, take-append-drop, take-append-le}
use Rattle.std.proofs.lemmas.List.Concat.{flat_map-append}
use Rattle.hfs_fields.specs.declared.mdb.Mdb.{Mdb}
use Rattle.hfs_fields.specs.declared.extent.Extent.{Extent}
use Rattle.hfs_fields.specs.Keys.{ext_cmp}
use Rattle.hfs_blocks.specs.Blocks.{block_at, length-block_at}
use Rattle.hfs_source.proofs.Copied.{flat-range}
use Rattle.hfs_fields.specs.Each.{Each}
use Rattle.hfs_fields.proofs.ElementLemmas.{each-append, each-left}
use Rattle.hfs_btree.specs.Pairs.{Rises}
use Rattle.hfs_space.specs.Extents.{Overflow, block_total, extent_blocks, AreExtentsWithin, fork_extents as whole_extents}
use Rattle.hfs_space.specs.Forks.{blocks_each, HasArea, run_bytes, joined, fork_bytes}
use Rattle.hfs_space.proofs.ForkLawLemmas.{allocation_block, file_blocks-in_order}
use Rattle.hfs_space.proofs.OwnedOnce.{each-range}
use Rattle.hfs_space.proofs.ForkLengthLemmas.{byte_total, length-run_bytes}
use Rattle.hfs_check.specs.Parts.{Blocks, mdb_in, overflow_in}
use Rattle.hfs_check.specs.Sound.{AreBlocksSound}
use Rattle.hfs_remains.specs.Allocation.{start_of}
use Rattle.hfs_remains.specs.TreeFiles.{FileBlocks}
use Rattle.hfs_remains.proofs.WholeLemmas.{there-below}
use Rattle.hfs_remains_forks.specs.declared.forks.Fork.{Fork}
use Rattle.hfs_remains_forks.specs.Forks.{blocks_for, fork_blocks, there, fork_places, fork_length, missing_in}
use Rattle.hfs_remains_forks.proofs.BlockLemmas.{blocks-counted}
use Rattle.hfs_remains_forks.proofs.FrontLemmas.{front-same}
use Rattle.hfs_remains_forks.specs.ForkBytes.{filled, place_bytes}
use Rattle.hfs_remains_forks.specs.Laws.{HasBlocks, IsWholeFork, SoundForksAreWhole, taken_bytes}

-- ---- blocks that are all there

each-front : (P : ℕ → Type 0) (k : ℕ) (xs : List ℕ) → Each P xs → Each P (take k xs)
each-front P k xs all = each-left P (take k xs) (drop k xs) (subst (Each P) (sym (take-append-drop k xs)) all)

blocks-below : (n : ℕ) (extents : List Extent) → AreExtentsWithin n extents → Each (λ b. b < n) (extent_blocks extents)
blocks-below n [] within = tt
blocks-below n (e ∷ extents) within =
    each-append (λ b. b < n) (range_with_len e.first e.count) (extent_blocks extents)
    (each-range (λ b. b < n) e.first e.count (λ b low high. omega (arith, high, within 0 e (omega arith) (omega (arith, low, high)))))
    (blocks-below n extents (λ k d lt. within (suc k) d (omega (arith, lt))))

places-there : (total : ℕ) (mdb : Mdb) → HasArea mdb total → (bs : List ℕ) → Each (λ b. b < mdb.allocation_blocks) bs → map (there total mdb) bs ≡ map Some bs
places-there total mdb area [] below = refl
places-there total mdb area (b ∷ bs) below =
    let here : there total mdb b ≡ Some b = ap (λ (t : Bool). if t then Some b else None) (there-below total mdb area b below.0) in
    let rest = places-there total mdb area bs below.1 in
    λ i. here i ∷ rest i

none-missing : (size left : ℕ) (bs : List ℕ) → missing_in size left (map Some bs) ≡ 0
none-missing size left [] = refl
none-missing size left (b ∷ bs) = omega (arith, none-missing size (left - size) bs)

-- ---- bytes

-- a block that lies whole in an image has the bytes of its logical blocks
module _ (image : List ℕ) (mdb : Mdb) (total : ℕ) (blocks : Blocks) (area : HasArea mdb total) (whole : mdb.allocation_block_size % 512 ≡ 0) (has : HasBlocks image total blocks) where
  run-same : (n k : ℕ) → n + k ≤ total → flat_map (block_at image) (range_with_len n k) ≡ run_bytes blocks n k
  run-same n zero within = refl
  run-same n (suc k) within =
      let here = has.same n (omega (arith, within)) in
      let rest = run-same (n + 1) k (omega (arith, within)) in
      λ i. here i ++ rest i

  place-whole : (b : ℕ) → b < mdb.allocation_blocks → place_bytes image mdb (Some b) ≡ run_bytes blocks (start_of mdb b) (blocks_each mdb)
  unfolding place_bytes filled
  place-whole b below =
      let size : ℕ = mdb.allocation_block_size in
      let bytes : List ℕ = drop (512 * start_of mdb b) image in
      let each : blocks_each mdb * 512 ≡ size = omega (arith, whole) in
      let inside : (b + 1) * blocks_each mdb ≤ mdb.allocation_blocks * blocks_each mdb = mul-le-mul_right (blocks_each mdb) (omega (arith, below)) in
      let end : start_of mdb b + blocks_each mdb ≤ total = omega (arith, area, inside, add-mul b 1 (blocks_each mdb)) in
      let fits : size ≤ length bytes = omega (arith, each, end, has.enough, length-drop (512 * start_of mdb b) image) in
      take-append-le size bytes (replicate size 0) fits
      ∙ ap (λ (n : ℕ). take n bytes) (sym each)
      ∙ sym (flat-range image (start_of mdb b) (blocks_each mdb))
      ∙ run-same (start_of mdb b) (blocks_each mdb) end

  places-whole : (bs : List ℕ) → Each (λ b. b < mdb.allocation_blocks) bs
      → flat_map (place_bytes image mdb) (map Some bs) ≡ flat_map (λ b. run_bytes blocks (start_of mdb b) (blocks_each mdb)) bs
  places-whole [] below = refl
  places-whole (b ∷ bs) below =
      let here = place-whole b below.0 in
      let rest = places-whole bs below.1 in
      λ i. here i ++ rest i

joined-flat : (blocks : Blocks) (mdb : Mdb) (bs : List ℕ) → joined (flat_map (allocation_block blocks mdb) bs) ≡ flat_map (λ b. run_bytes blocks (start_of mdb b) (blocks_each mdb)) bs
joined-flat blocks mdb [] = refl
joined-flat blocks mdb (b ∷ bs) =
    flat_map-append (λ (l : List ℕ). l) (allocation_block blocks mdb b) (flat_map (allocation_block blocks mdb) bs)
    ∙ ap (λ (l : List ℕ). run_bytes blocks (start_of mdb b) (blocks_each mdb) ++ l) (joined-flat blocks mdb bs)

-- ---- a fork

module _ (total : ℕ) (blocks : Blocks) (mdb : Mdb) (area : HasArea mdb total) (least : 512 ≤ mdb.allocation_block_size) (whole : mdb.allocation_block_size % 512 ≡ 0)
    (records : Overflow) (rises : Rises ext_cmp records) (fork : Fork) where
  abbrev extents : List Extent
  extents = whole_extents records fork.file fork.kind fork.first

  abbrev size : ℕ
  size = mdb.allocation_block_size

  module _ (within : AreExtentsWithin mdb.allocation_blocks extents) (room : fork.len ≤ block_total extents * mdb.allocation_block_size) where
    abbrev wanted : ℕ
    wanted = blocks_for mdb fork.len

    ceiling : (fork.len ≤ wanted * size) × (wanted * size < fork.len + size)
    ceiling = div_ceil_times fork.len size (omega (arith, least))

    enough : wanted ≤ length (extent_blocks extents)
    enough =
        elim (cases_lt (length (extent_blocks extents)) wanted) [
          | inr few ↦ few
          | inl less ↦
              let product : suc (length (extent_blocks extents)) * size ≤ wanted * size = mul-le-mul_right size (omega (arith, less)) in
              let more : suc (length (extent_blocks extents)) * size ≡ length (extent_blocks extents) * size + size = suc-mul (length (extent_blocks extents)) size in
              let count : block_total extents * size ≡ length (extent_blocks extents) * size = ap (λ (k : ℕ). k * size) (blocks-counted extents) in
              absurd (omega (arith, product, more, count, room, ceiling.1))
        ]

    blocks-are : fork_blocks records mdb fork ≡ take wanted (extent_blocks extents)
    unfolding fork_blocks
    blocks-are = front-same records rises fork.file fork.kind wanted fork.first

    count-is : length (fork_blocks records mdb fork) ≡ wanted
    count-is = ap length blocks-are ∙ length-take-le wanted (extent_blocks extents) enough

    length-is : fork_length records mdb fork ≡ fork.len
    unfolding fork_length
    length-is = ap (λ (k : ℕ). min fork.len (k * size)) count-is ∙ omega (arith, ceiling.0)

    below-front : Each (λ b. b < mdb.allocation_blocks) (take wanted (extent_blocks extents))
    below-front = each-front (λ b. b < mdb.allocation_blocks) wanted (extent_blocks extents) (blocks-below mdb.allocation_blocks extents within)

    places-are : fork_places total records mdb fork ≡ map Some (take wanted (extent_blocks extents))
    unfolding fork_places
    places-are = ap (map (there total mdb)) blocks-are ∙ places-there total mdb area (take wanted (extent_blocks extents)) below-front

    module _ (full : (n : ℕ) → n < total → length (blocks n) ≡ 512) where
      long : (bs : List ℕ) → Each (λ b. b < mdb.allocation_blocks) bs → length (flat_map (λ b. run_bytes blocks (start_of mdb b) (blocks_each mdb)) bs) ≡ 512 * (length bs * blocks_each mdb)
      long [] below = omega arith
      long (b ∷ bs) below =
          let inside : (b + 1) * blocks_each mdb ≤ mdb.allocation_blocks * blocks_each mdb = mul-le-mul_right (blocks_each mdb) (omega (arith, below.0)) in
          let own : length (run_bytes blocks (start_of mdb b) (blocks_each mdb)) ≡ 512 * blocks_each mdb =
          length-run_bytes blocks total full (blocks_each mdb) (start_of mdb b) (omega (arith, area, inside, add-mul b 1 (blocks_each mdb))) in
          let more : suc (length bs) * blocks_each mdb ≡ length bs * blocks_each mdb + blocks_each mdb = suc-mul (length bs) (blocks_each mdb) in
          omega (
            arith,
            length-append (run_bytes blocks (start_of mdb b) (blocks_each mdb)) (flat_map (λ b. run_bytes blocks (start_of mdb b) (blocks_each mdb)) bs),
            own,
            more,
            long bs below.1,
          )

      bytes-are : (image : List ℕ) → HasBlocks image total blocks → taken_bytes total image records mdb fork ≡ fork_bytes blocks mdb extents fork.len
      unfolding fork_bytes
      bytes-are image has =
          let f : ℕ → List ℕ = λ b. run_bytes blocks (start_of mdb b) (blocks_each mdb) in
          let bs = extent_blocks extents in
          let front = flat_map f (take wanted bs) in
          let behind = flat_map f (drop wanted bs) in
          let len : length (take wanted bs) ≡ wanted = length-take-le wanted bs enough in
          let own : length front ≡ 512 * (length (take wanted bs) * blocks_each mdb) = long (take wanted bs) below-front in
          let bytes : wanted * size ≡ 512 * (wanted * blocks_each mdb) = byte_total mdb wanted whole in
          let same : length (take wanted bs) * blocks_each mdb ≡ wanted * blocks_each mdb = ap (λ (k : ℕ). k * blocks_each mdb) len in
          let fits : fork.len ≤ length front = omega (arith, own, bytes, same, ceiling.0) in
          (λ t. take (length-is t) (flat_map (place_bytes image mdb) (places-are t)))
          ∙ ap (take fork.len) (places-whole image mdb total blocks area whole has (take wanted bs) below-front)
          ∙ sym (take-append-le fork.len front behind fits)
          ∙ ap (take fork.len) (sym (flat_map-append f (take wanted bs) (drop wanted bs)) ∙ ap (flat_map f) (take-append-drop wanted bs))
          ∙ ap (take fork.len) (sym (joined-flat blocks mdb bs) ∙ sym (ap joined (file_blocks-in_order blocks mdb extents)))

    pub whole-fork : IsWholeFork total blocks records mdb fork
    whole-fork = record {
      places = places-are;
      len = length-is;
      cut = λ used. ap (λ (k : ℕ). if nat_lt k fork.len then Some k else None) length-is ∙ ap (λ (b : Bool). if b then Some fork.len else None) (le-ltb fork.len fork.len (omega arith));
      missing = λ used. ap (λ (l : FileBlocks). missing_in size (fork_length records mdb fork) l) places-are ∙ none-missing size (fork_length records mdb fork) (take wanted (extent_blocks extents));
      bytes = λ image has. bytes-are (λ n lt. ap length (sym (has.same n lt)) ∙ length-block_at image n (omega (arith, lt, has.enough))) image has;
    }

rises-of : (total : ℕ) (blocks : Blocks) → AreBlocksSound total blocks → Rises ext_cmp (overflow_in blocks)
unfolding overflow_in
rises-of total blocks h = h.extents.ordered.rises

pub forks-whole : SoundForksAreWhole
forks-whole total blocks h fork sound =
    whole-fork total blocks (mdb_in blocks) h.mdb.area h.mdb.least_size h.mdb.whole_size (overflow_in blocks) (rises-of total blocks h) fork sound.within sound.room
