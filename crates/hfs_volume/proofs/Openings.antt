-- The bytes of an open fork that are left.
use Rattle.std.proofs.Common.{inl, inr, ◌≡◌, ℕ, ◌+◌, ◌-◌, ◌*◌, ◌%◌, ◌≤◌, subst, List, length, take, drop, take_all, arith, sym, ◌∙◌, ap, length-take, length-drop}
use Rattle.std.specs.Prelude.{min}
use Rattle.std.proofs.lemmas.List.{take-take, drop-take, drop_all}
use Rattle.std.proofs.lemmas.Bool.Decides.{leb_tells}
use Rattle.hfs_fields.specs.declared.extent.Extent.{Extent}
use Rattle.hfs_fields.specs.declared.mdb.Mdb.{Mdb}
use Rattle.hfs_blocks.specs.Blocks.{block_at, block_count, length-block_at}
use Rattle.hfs_space.specs.Extents.{AreExtentsWithin, block_total}
use Rattle.hfs_space.specs.Forks.{HasArea, file_blocks, joined, fork_bytes}
use Rattle.hfs_space.proofs.ForkLengthLemmas.{length-fork_bytes}
use Rattle.hfs_volume.specs.Image.{ImageValue}
use Rattle.hfs_volume.specs.LeftBytes.{IsOpenFork}

module _ (count left n : ℕ) (is : n ≡ min count left) (all : List ℕ) where
  -- what is read of so many bytes that are left
  pub read_is : take n all ≡ take count (take left all)
  read_is =
      elim (leb_tells count left) [
        | inl h ↦ ap (λ m. take m all) (let e : n ≡ count = omega (arith, h.1) in e) ∙ sym (take-take count left all h.1)
        | inr h ↦ ap (λ m. take m all) (let e : n ≡ left = omega (arith, h.1) in e) ∙ sym (take_all count (take left all) (omega (arith, length-take left all, h.1)))
      ]

  -- and what is left of them
  pub left_is : (behind : List ℕ) → behind ≡ drop n all → take (left - n) behind ≡ drop count (take left all)
  left_is behind is_behind = ap (take (left - n)) is_behind ∙ elim (leb_tells count left) [
    | inl h ↦
        let same : n ≡ count = omega (arith, h.1) in
        let split : count + (left - count) ≡ left = omega (arith, h.1) in
        (λ i. take (left - same i) (drop (same i) all)) ∙ sym (ap (λ m. drop count (take m all)) (sym split) ∙ drop-take count (left - count) all)
    | inr h ↦
        let none : left - n ≡ 0 = omega (arith, h.1) in
        ap (λ m. take m (drop n all)) none ∙ sym (drop_all count (take left all) (omega (arith, length-take left all, h.1)))
  ]

  pub room_is : (behind : List ℕ) → left ≤ length all → behind ≡ drop n all → left - n ≤ length behind
  room_is behind room is_behind = omega (arith, room, ap (λ (l : List ℕ). length l) is_behind, length-drop n all)

-- a fork whose extents lie in the image and have room for its bytes, opened at its beginning
module _ (image : ImageValue) (mdb : Mdb) (area : HasArea mdb (block_count image.current)) (even : mdb.allocation_block_size % 512 ≡ 0)
    (extents found : List Extent) (len : ℕ) (within : AreExtentsWithin mdb.allocation_blocks extents) (room : len ≤ block_total extents * mdb.allocation_block_size)
    (same : found ≡ extents) where
  whole_length : length (fork_bytes (block_at image.current) mdb extents len) ≡ len
  whole_length = length-fork_bytes (block_at image.current) (block_count image.current) (length-block_at image.current) mdb area extents len even within room

  room_behind : len ≤ length (joined (file_blocks (block_at image.current) mdb extents))
  unfolding fork_bytes
  room_behind = omega (arith, whole_length, length-take len (joined (file_blocks (block_at image.current) mdb extents)))

  pub is_open : IsOpenFork image mdb found (record { extent = 0; passed = 0 }) len
  is_open = subst (λ (es : List Extent). IsOpenFork image mdb es (record { extent = 0; passed = 0 }) len) (sym same) (record {
    area = area;
    within = within;
    at = λ d some. omega arith;
    room = room_behind;
  })

  pub all_left : take len (joined (file_blocks (block_at image.current) mdb found)) ≡ fork_bytes (block_at image.current) mdb extents len
  unfolding fork_bytes
  all_left = ap (λ (es : List Extent). take len (joined (file_blocks (block_at image.current) mdb es))) same
