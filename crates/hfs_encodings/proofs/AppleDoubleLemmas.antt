-- Lemmas about the definitions of specs/AppleDouble.antt.
use Rattle.std.specs.Prelude.{ℕ, List, ◌++◌, length}
use Rattle.hfs_encodings.specs.AppleDouble.{apple_double_head_bytes}

-- the whole file of an item with these Finder bytes and this resource fork
abbrev pub apple_double_bytes : List ℕ → List ℕ → List ℕ
apple_double_bytes finder fork = apple_double_head_bytes (record { finder = finder; resource_length = length fork }) ++ fork
