-- AppleDouble files: what a file system without resource forks keeps of an item next to its data fork.
use Rattle.std.specs.Prelude.{◌≡◌, ℕ, ◌≤◌, List, [], ◌∷◌, ◌++◌, length, take, replicate}
use Rattle.byteorder.specs.Endian.{big_bytes}
use Rattle.hfs_fields.specs.Numbers.{number_at}
use Rattle.hfs_fields.specs.Mdb.{bytes_at}
use Rattle.hfs_encodings.specs.declared.apple_double.AppleDoubleHead.{AppleDoubleHead}

-- what describes one part of the file: what it is, the byte where it begins, how many bytes it has
abbrev pub apple_double_entry : ℕ → ℕ → ℕ → List ℕ
apple_double_entry what start len = big_bytes 4 what ++ big_bytes 4 start ++ big_bytes 4 len

-- the number of AppleDouble files and that of version 2, 16 zero bytes, and that there are two parts: the Finder bytes (9) and the resource fork (2), whose length follows
abbrev pub apple_double_layout : List ℕ
apple_double_layout =
    0 ∷ 5 ∷ 22 ∷ 7 ∷ 0 ∷ 2 ∷ 0 ∷ 0 ∷ [] ++ replicate 16 0 ++ big_bytes 2 2 ++ apple_double_entry 9 50 32 ++ big_bytes 4 2 ++ big_bytes 4 82

-- the 82 bytes before the resource fork
unfoldable pub apple_double_head_bytes : AppleDoubleHead → List ℕ
apple_double_head_bytes head = apple_double_layout ++ big_bytes 4 head.resource_length ++ head.finder

-- ---- what is read

-- the file begins with a head in this layout
abbrev pub BeginsAppleDouble : List ℕ → Type 0
BeginsAppleDouble file = (82 ≤ length file) × (take 46 file ≡ apple_double_layout)

unfoldable pub apple_double_head_of : List ℕ → AppleDoubleHead
apple_double_head_of file = record { finder = bytes_at 50 32 file; resource_length = number_at 46 4 file }

-- the resource fork after a head that gives it so many bytes
abbrev pub resource_fork_at : ℕ → List ℕ → List ℕ
resource_fork_at len file = bytes_at 82 len file

-- head and resource fork come back from the file
pub record HoldsAppleDouble (head : AppleDoubleHead) (fork file : List ℕ) : Type 0 where
  pub begins : BeginsAppleDouble file
  pub head_is : apple_double_head_of file ≡ head
  pub fork_is : resource_fork_at head.resource_length file ≡ fork
