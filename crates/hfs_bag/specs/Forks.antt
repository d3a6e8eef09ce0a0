-- Forks that are read piece by piece.
use Rattle.std.specs.Prelude.{◌≡◌, ℕ, ◌*◌, Bool, true, false, List, [], ◌++◌, drop, length, replicate, take, Option, Some, None}
use Rattle.std.specs.List.{flat_map}
use Rattle.hfs_source.specs.Images.{HasAt}
use Rattle.hfs_bag.specs.declared.piece.Piece.{Piece}
use Rattle.hfs_bag.specs.declared.fork_reading.ForkReading.{ForkReading}

-- so many bytes of an image from a logical block on; zeros where it is missing. Where the image ends before, zeros fill what there is, or nothing does
abbrev pub first_bytes : Bool → List ℕ → Option ℕ → ℕ → List ℕ
first_bytes fills image None count = replicate count 0
first_bytes true image (Some n) count = take count (drop (512 * n) image ++ replicate count 0)
first_bytes false image (Some n) count = take count (drop (512 * n) image)

abbrev pub piece_bytes : Bool → List ℕ → Piece → List ℕ
piece_bytes fills image piece = first_bytes fills image piece.first piece.len

-- those of pieces, one after the other
abbrev pub pieces_bytes : Bool → List ℕ → List Piece → List ℕ
pieces_bytes fills image pieces = flat_map (piece_bytes fills image) pieces

-- the bytes of a fork that are left
abbrev pub fork_rest : Bool → List ℕ → ForkReading → List ℕ
fork_rest fills image fork = take fork.left (pieces_bytes fills image (drop fork.next fork.pieces.items))

-- the image has these bytes from a logical block on; zeros where it is missing
abbrev pub BeginsIn : Option ℕ → List ℕ → List ℕ → Type 0
BeginsIn None bytes image = bytes ≡ replicate (length bytes) 0
BeginsIn (Some n) bytes image = HasAt (512 * n) bytes image

-- the next bytes were read of what was left, and none only where none are left
pub record ReadsOn (piece old new : List ℕ) : Type 0 where
  pub bytes : old ≡ piece ++ new
  pub none : piece ≡ [] → new ≡ []
