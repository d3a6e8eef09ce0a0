-- Forks that are begun.
use Rattle.std.proofs.Common.{◌≡◌, ap, ℕ, false, List, take}
use Rattle.hfs_bag.specs.declared.piece.Piece.{Piece}
use Rattle.hfs_bag.specs.Forks.{pieces_bytes}
use Rattle.hfs_source.specs.Writing.{blocks_of}
use Rattle.hfs_word_take.specs.Reading.{first_bytes}

-- all bytes of the fork are left
pub fork_begun : (image : List ℕ) (len : ℕ) (numbers : List ℕ) (pieces : List Piece) → pieces_bytes false image pieces ≡ blocks_of image numbers
    → take len (pieces_bytes false image pieces) ≡ first_bytes image len numbers
fork_begun image len numbers pieces is = ap (take len) is
