-- The volume bitmap: one bit for each allocation block, which is set where the block is in use. Block numbers are logical
-- blocks of 512 bytes, counted from 0, or allocation blocks, counted from 0, as it is said.
use Rattle.std.specs.Prelude.{◌≡◌, ℕ, ◌+◌, ◌-◌, ◌/◌, ◌%◌, ◌<◌, ◌≤◌, ◌⊎◌, Bool, false, not, ◌==◌, List, map, slice_index, count_by, ◌||◌, ◌&&◌}
use Rattle.std.specs.List.{range_with_len}
use Rattle.std.specs.Int.{bit_at}
use Rattle.hfs_blocks.specs.Layers.{Numbered, changes, over}

-- whether bit i of the bytes is set: bit 0 is the most significant bit of the first byte
abbrev pub is_marked : List ℕ → ℕ → Bool
is_marked bytes i = bit_at (slice_index bytes (i / 8)) (7 - i % 8) == 1

-- whether allocation block n is marked as in use, in a bitmap that begins at logical block `start`
abbrev pub is_used : (ℕ → List ℕ) → ℕ → ℕ → Bool
is_used blocks start n = is_marked (blocks (start + n / 4096)) (n % 4096)

-- how many numbers below n pass the test
abbrev pub count_below : (ℕ → Bool) → ℕ → ℕ
count_below test n = count_by test (range_with_len 0 n)

-- how many of the first n allocation blocks are not marked
abbrev pub clear_count : (ℕ → List ℕ) → ℕ → ℕ → ℕ
clear_count blocks start n = count_below (λ k. not (is_used blocks start k)) n

-- how many logical blocks the bits of n allocation blocks take
abbrev pub bitmap_len : ℕ → ℕ
bitmap_len n = (n + 4095) / 4096

-- the bits of `count` allocation blocks from `first` on are clear
abbrev pub AreClear : (ℕ → List ℕ) → ℕ → ℕ → ℕ → Type 0
AreClear blocks start first count = (n : ℕ) → first ≤ n → n < first + count → is_used blocks start n ≡ false

-- besides the bits of `count` allocation blocks from `first` on nothing has changed: no other bit of the bitmap, and no block
-- that has none of these bits
pub record KeepsOthers (old new : ℕ → List ℕ) (start first count : ℕ) : Type 0 where
  pub bits : (n : ℕ) → (n < first) ⊎ (first + count ≤ n) → is_used new start n ≡ is_used old start n
  pub blocks : (k : ℕ) → (k < start + first / 4096) ⊎ (start + bitmap_len (first + count) ≤ k) → new k ≡ old k

-- over these blocks a patch has the bits of `count` allocation blocks from `first` on clear
abbrev pub AreClearIn : Numbered → (ℕ → List ℕ) → ℕ → ℕ → ℕ → Type 0
AreClearIn patch below start first count = AreClear (over (changes patch) below) start first count

-- and besides these bits shows what the other patch showed
abbrev pub KeepsOthersIn : Numbered → Numbered → (ℕ → List ℕ) → ℕ → ℕ → ℕ → Type 0
KeepsOthersIn old new below start first count = KeepsOthers (over (changes old) below) (over (changes new) below) start first count

-- for each of the first n allocation blocks whether it is marked
abbrev pub marks : (ℕ → List ℕ) → ℕ → ℕ → List Bool
marks blocks start n = map (is_used blocks start) (range_with_len 0 n)

-- a block may have so many owners: none, or one where it is marked
abbrev pub is_allowed : Bool → ℕ → Bool
is_allowed used owners = (owners == 0) || ((owners == 1) && used)

-- a block with so many owners is stray: it has none, and is marked
abbrev pub is_stray : Bool → ℕ → Bool
is_stray used owners = (owners == 0) && used

-- how many of the first n bits of the bytes are clear
abbrev pub clear_below : List ℕ → ℕ → ℕ
clear_below bytes n = count_below (λ i. not (is_marked bytes i)) n

-- no bit but bit i has changed
abbrev pub KeepsBitsBut : ℕ → List ℕ → List ℕ → Type 0
KeepsBitsBut i old new = (k : ℕ) → (k < i) ⊎ (i < k) → is_marked new k ≡ is_marked old k

-- no bit has changed but those from `first` up to `end`
abbrev pub KeepsBitsOutside : ℕ → ℕ → List ℕ → List ℕ → Type 0
KeepsBitsOutside first end old new = (k : ℕ) → (k < first) ⊎ (end ≤ k) → is_marked new k ≡ is_marked old k
