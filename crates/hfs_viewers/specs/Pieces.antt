-- A file's fork by pieces: the bytes that these show over the bytes of the base's fork.
use Rattle.std.specs.Prelude.{⊤, ◌≡◌, ℕ, ◌+◌, ◌-◌, ◌≤◌, ◌<◌, ◌^◌, false, if◌then◌else◌, List, [], ◌∷◌, ◌++◌, length, take, drop, replicate}
use Rattle.hfs_viewers.specs.declared.piece.Source.{Source}
use Rattle.hfs_viewers.specs.declared.piece.Source.TheVariants.{Base, Zeros, Given}
use Rattle.hfs_viewers.specs.declared.piece.Piece.{Piece}
use Rattle.hfs_viewers.specs.declared.fork.ForkPieces.{ForkPieces}

-- the first n bytes of a source
abbrev pub source_bytes : List ℕ → ℕ → Source → List ℕ
source_bytes base n (Base from) = take n (drop from base)
source_bytes base n Zeros = replicate n 0
source_bytes base n (Given bytes from) = take n (drop from bytes)

-- the source of the bytes after the first n
abbrev pub skipped : ℕ → Source → Source
skipped n (Base from) = Base (from + n)
skipped n Zeros = Zeros
skipped n (Given bytes from) = Given bytes (from + n)

-- the place where pieces end of which the first begins at `start`
abbrev pub end_of : ℕ → List Piece → ℕ
end_of start [] = start
end_of start (p ∷ ps) = end_of p.end ps

-- their bytes
abbrev pub bytes_from : List ℕ → ℕ → List Piece → List ℕ
bytes_from base start [] = []
bytes_from base start (p ∷ ps) = source_bytes base (p.end - start) p.source ++ bytes_from base p.end ps

-- the source has n bytes, where the base's fork has so many, and each of their places is a number of 32 bits
abbrev pub HasBytes : ℕ → ℕ → Source → Type 0
HasBytes base_len n (Base from) = (from + n ≤ base_len) × (from + n < 2 ^ 32)
HasBytes base_len n Zeros = ⊤
HasBytes base_len n (Given bytes from) = (from + n ≤ length bytes) × (from + n < 2 ^ 32)

-- each piece has its bytes
pub record IsPiece (base_len start : ℕ) (p : Piece) : Type 0 where
  pub rises : start ≤ p.end
  pub has : HasBytes base_len (p.end - start) p.source

-- pieces one after the other, each with its bytes
abbrev pub AreRow : ℕ → ℕ → List Piece → Type 0
AreRow base_len start [] = ⊤
AreRow base_len start (p ∷ ps) = IsPiece base_len start p × AreRow base_len p.end ps

-- ---- a fork

-- what holds of each fork by pieces
pub record ArePieces (fork : ForkPieces) : Type 0 where
  pub row : AreRow fork.base_len 0 fork.pieces
  pub none : fork.touched ≡ false → fork.pieces ≡ []
  pub small : fork.base_len < 2 ^ 32

-- how many bytes the fork has
abbrev pub fork_length : ForkPieces → ℕ
fork_length fork = if fork.touched then end_of 0 fork.pieces else fork.base_len

-- its bytes, over those of the base's fork
abbrev pub fork_shown : List ℕ → ForkPieces → List ℕ
fork_shown base fork = if fork.touched then bytes_from base 0 fork.pieces else base
