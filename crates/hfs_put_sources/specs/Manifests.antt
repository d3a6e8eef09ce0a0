-- Lines of manifests: the digest of a file in 64 hexadecimal digits, two spaces, and its path.
use Rattle.std.specs.Prelude.{ℕ, ◌&&◌, nat_le, if◌then◌else◌, List, length, take, drop, Option, None, codes, bytes_eq}
use Rattle.std.specs.Result.{result_ok}
use Rattle.hex.specs.Hex.{decode_sized}

-- a digest by its digits
abbrev pub digest_of : List ℕ → Option (List ℕ)
digest_of digits = result_ok (decode_sized digits 32)

-- the digest of a line's file
unfoldable pub digest_in : List ℕ → Option (List ℕ)
digest_in line = if nat_le 64 (length line) && bytes_eq (take 2 (drop 64 line)) (codes "  ") then digest_of (take 64 line) else None

-- its path
abbrev pub path_in : List ℕ → List ℕ
path_in line = drop 2 (drop 64 line)
