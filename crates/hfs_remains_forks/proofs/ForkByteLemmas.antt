-- How many bytes blocks and forks have, and parts of them.
use Rattle.std.proofs.Common.{◌≡◌, ℕ, ◌+◌, ◌-◌, ◌*◌, ◌<◌, ◌≤◌, Bool, true, false, if◌then◌else◌, List, [], ◌∷◌, ◌++◌, length, get_or, take, drop, map, min, replicate, Option, Some, None, refl, sym, ap, ◌∙◌, arith, append-nil, append_assoc, length-append, length-take, length-drop}
use Rattle.std.proofs.Math.Nat.{suc-mul, zero-mul}
use Rattle.std.proofs.Math.Seq.{take-nil}
use Rattle.std.proofs.lemmas.List.{drop-replicate, drop_all, drop_min, drop_more, length-map, length-replicate, length-take-le, take-replicate}
use Rattle.hfs_fields.specs.declared.mdb.Mdb.{Mdb}
use Rattle.hfs_space.specs.Extents.{Overflow}
use Rattle.hfs_space.proofs.PieceLemmas.{read-append, read-take, take_past}
use Rattle.hfs_remains.specs.Allocation.{start_of}
use Rattle.hfs_remains.specs.TreeFiles.{FileBlocks}
use Rattle.hfs_remains_forks.specs.declared.forks.Fork.{Fork}
use Rattle.hfs_remains_forks.specs.declared.shares.Share.{Share}
use Rattle.hfs_remains_forks.specs.ForkBytes.{filled, fork_bytes, place_bytes, places_bytes, share_bytes}
use Rattle.hfs_remains_forks.specs.Forks.{fork_blocks, fork_length, fork_places, there}

-- ---- bytes that are filled with zeros

pub length-filled : (n : ℕ) (bytes : List ℕ) → length (filled n bytes) ≡ n
unfolding filled
length-filled n bytes = omega (arith, length-take n (bytes ++ replicate n 0), length-append bytes (replicate n 0), length-replicate {A = ℕ} n 0)

read-at : (c w n p k : ℕ) (bytes : List ℕ) → p ≡ min w (length bytes) → k ≡ min c (length bytes - p) → w + c ≤ n → take c (drop w (filled n bytes)) ≡ filled c (drop w bytes)
unfolding filled
read-at c w n p k bytes is_p is_k fits =
    let same : min c (n - w) ≡ c = omega (arith, fits) in
    let zeros : take (c - k) (drop (w - p) (replicate n 0)) ≡ take (c - k) (replicate c 0) =
    ap (take (c - k)) (drop-replicate (w - p) n 0) ∙ take-replicate (c - k) (n - (w - p)) 0 (omega (arith, fits, is_p)) ∙ sym (take-replicate (c - k) c 0 (omega arith)) in
    let front : drop p bytes ≡ drop w bytes = ap (λ (m : ℕ). drop m bytes) is_p ∙ drop_min w bytes in
    read-take c w n (bytes ++ replicate n 0)
    ∙ ap (λ (m : ℕ). take m (drop w (bytes ++ replicate n 0))) same
    ∙ read-append c w p k bytes (replicate n 0) is_p is_k
    ∙ (λ i. take k (front i) ++ zeros i)
    ∙ sym (take_past c k (drop w bytes) (replicate c 0) (omega (arith, is_p, is_k, length-drop w bytes)))

-- a part of them
pub read-filled : (c w n : ℕ) (bytes : List ℕ) → w + c ≤ n → take c (drop w (filled n bytes)) ≡ filled c (drop w bytes)
read-filled c w n bytes fits = read-at c w n (min w (length bytes)) (min c (length bytes - min w (length bytes))) bytes refl refl fits

-- ---- blocks

pub length-place : (image : List ℕ) (mdb : Mdb) (place : Option ℕ) → length (place_bytes image mdb place) ≡ mdb.allocation_block_size
unfolding place_bytes
length-place image mdb None = length-replicate mdb.allocation_block_size 0
length-place image mdb (Some b) = length-filled mdb.allocation_block_size (drop (512 * start_of mdb b) image)

pub length-places : (image : List ℕ) (mdb : Mdb) (places : FileBlocks) → length (places_bytes image mdb places) ≡ length places * mdb.allocation_block_size
length-places image mdb [] = sym (zero-mul mdb.allocation_block_size)
length-places image mdb (place ∷ places) =
    let size = mdb.allocation_block_size in
    length-append (place_bytes image mdb place) (places_bytes image mdb places)
    ∙ (λ i. length-place image mdb place i + length-places image mdb places i)
    ∙ omega (arith, suc-mul (length places) size)

-- the first bytes of a block that is there, and of one that is missing
pub block_first : (image : List ℕ) (mdb : Mdb) (b count : ℕ) → count ≤ mdb.allocation_block_size → take count (place_bytes image mdb (Some b)) ≡ filled count (drop (512 * start_of mdb b) image)
unfolding place_bytes
block_first image mdb b count fits = read-filled count 0 mdb.allocation_block_size (drop (512 * start_of mdb b) image) (omega (arith, fits))

pub missing_first : (image : List ℕ) (mdb : Mdb) (count : ℕ) → count ≤ mdb.allocation_block_size → take count (place_bytes image mdb None) ≡ replicate count 0
unfolding place_bytes
missing_first image mdb count fits = take-replicate count mdb.allocation_block_size 0 fits

-- ---- forks

-- those of the first block, and those of the blocks behind it
pub fork_parted : (image : List ℕ) (mdb : Mdb) (left count : ℕ) (place : Option ℕ) (places : FileBlocks) → count ≡ min left mdb.allocation_block_size
    → fork_bytes image mdb left (place ∷ places) ≡ take count (place_bytes image mdb place) ++ fork_bytes image mdb (left - mdb.allocation_block_size) places
fork_parted image mdb left count place places first =
    let long = length-place image mdb place in
    let behind : left - count ≡ left - mdb.allocation_block_size = omega (arith, first) in
    take_past left count (place_bytes image mdb place) (places_bytes image mdb places) (omega (arith, first, long))
    ∙ ap (λ (n : ℕ). take count (place_bytes image mdb place) ++ take n (places_bytes image mdb places)) behind

module _ (image : List ℕ) (mdb : Mdb) (all : List ℕ) (places : FileBlocks) where
  -- those of a block more came
  pub fork_more : (old new : List ℕ) (left count rest i : ℕ) (place d : Option ℕ) → i < length places → place ≡ get_or places i d
      → old ++ fork_bytes image mdb left (drop i places) ≡ all → count ≡ min left mdb.allocation_block_size → new ≡ old ++ take count (place_bytes image mdb place)
      → rest ≡ left - count → new ++ fork_bytes image mdb rest (drop (i + 1) places) ≡ all
  fork_more old new left count rest i place d within is so first added left_is =
      let behind : rest ≡ left - mdb.allocation_block_size = omega (arith, left_is, first) in
      let own : List ℕ = take count (place_bytes image mdb place) in
      let others : List ℕ = fork_bytes image mdb (left - mdb.allocation_block_size) (drop (i + 1) places) in
      ap (λ (n : ℕ). new ++ fork_bytes image mdb n (drop (i + 1) places)) behind
      ∙ ap (λ (bytes : List ℕ). bytes ++ others) added
      ∙ append_assoc old own others
      ∙ ap (λ (bytes : List ℕ). old ++ bytes) (sym (fork_parted image mdb left count place (drop (i + 1) places) first))
      ∙ ap (λ (p : Option ℕ). old ++ fork_bytes image mdb left (p ∷ drop (i + 1) places)) is
      ∙ ap (λ (xs : FileBlocks). old ++ fork_bytes image mdb left xs) (sym (drop_more places i d within))
      ∙ so

  -- those of the last one came
  pub fork_whole : (bytes : List ℕ) (left i : ℕ) → length places ≤ i → bytes ++ fork_bytes image mdb left (drop i places) ≡ all → bytes ≡ all
  fork_whole bytes left i end so =
      sym (append-nil bytes)
      ∙ ap (λ (xs : List ℕ). bytes ++ xs) (sym (take-nil left) ∙ ap (λ (xs : FileBlocks). fork_bytes image mdb left xs) (sym (drop_all i places end)))
      ∙ so

-- a fork is no longer than its blocks
fork-fits : (image : List ℕ) (total : ℕ) (records : Overflow) (mdb : Mdb) (fork : Fork) → fork_length records mdb fork ≤ length (places_bytes image mdb (fork_places total records mdb fork))
unfolding fork_length fork_places
fork-fits image total records mdb fork =
    let blocks = fork_blocks records mdb fork in
    let size = mdb.allocation_block_size in
    let many : length (map (there total mdb) blocks) * size ≡ length blocks * size = ap (λ (n : ℕ). n * size) (length-map blocks (there total mdb)) in
    omega (arith, many, length-places image mdb (map (there total mdb) blocks))

share-fits : (b : Bool) (image : List ℕ) (mdb : Mdb) (len : ℕ) (places : FileBlocks) → len ≤ length (places_bytes image mdb places)
    → length (fork_bytes image mdb (if b then len else 0) (if b then places else [])) ≡ (if b then len else 0)
share-fits true image mdb len places fits = length-take-le len (places_bytes image mdb places) fits
share-fits false image mdb len places fits = refl

-- as many bytes are taken of a fork as it is long
pub length-share_bytes : (image : List ℕ) (total : ℕ) (records : Overflow) (mdb : Mdb) (share : Share)
    → length (share_bytes image total records mdb share) ≡ (if share.taken then fork_length records mdb share.fork else 0)
length-share_bytes image total records mdb share =
    share-fits share.taken image mdb (fork_length records mdb share.fork) (fork_places total records mdb share.fork) (fork-fits image total records mdb share.fork)
