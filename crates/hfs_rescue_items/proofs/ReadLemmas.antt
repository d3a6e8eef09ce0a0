-- Forks that are begun.
use Rattle.std.proofs.Common.{◌≡◌, ◌∙◌, ap, arith, ℕ, true, List, take, sym}
use Rattle.std.proofs.lemmas.List.{take-take}
use Rattle.hfs_bag.specs.declared.piece.Piece.{Piece}
use Rattle.hfs_bag.specs.Forks.{pieces_bytes}
use Rattle.hfs_fields.specs.declared.mdb.Mdb.{Mdb}
use Rattle.hfs_remains.specs.TreeFiles.{FileBlocks}
use Rattle.hfs_remains_forks.specs.ForkBytes.{fork_bytes, places_bytes}

-- all bytes of the fork are left
pub fork_begun : (image : List ℕ) (mdb : Mdb) (len : ℕ) (places : FileBlocks) (pieces : List Piece) → pieces_bytes true image pieces ≡ fork_bytes image mdb len places
    → take len (pieces_bytes true image pieces) ≡ fork_bytes image mdb len places
fork_begun image mdb len places pieces is = ap (take len) is ∙ take-take len len (places_bytes image mdb places) (omega arith)
