-- What edits make of pieces.
use Rattle.std.specs.Prelude.{⊤, ◌≡◌, ℕ, ◌+◌, ◌-◌, ◌≤◌, ◌<◌, ◌^◌, true, false, nat_lt, if◌then◌else◌, List, [], ◌∷◌, ◌++◌, length, take, drop}
use Rattle.hfs_viewers.specs.declared.piece.Source.{Source}
use Rattle.hfs_viewers.specs.declared.piece.Source.TheVariants.{Base, Zeros, Given}
use Rattle.hfs_viewers.specs.declared.piece.Piece.{Piece}
use Rattle.hfs_viewers.specs.declared.fork.ForkPieces.{ForkPieces}
use Rattle.hfs_viewers.specs.Pieces.{skipped, end_of, ArePieces, fork_length, fork_shown}

-- ---- pieces by their places

-- the first of these pieces ends after the place, if there is one
abbrev pub EndsBehind : ℕ → List Piece → Type 0
EndsBehind place [] = ⊤
EndsBehind place (p ∷ ps) = place < p.end

-- so many pieces end at the place or before it
pub record HaveEnded (pieces : List Piece) (place count : ℕ) : Type 0 where
  pub within : count ≤ length pieces
  pub before : end_of 0 (take count pieces) ≤ place
  pub behind : EndsBehind place (drop count pieces)

-- the place after n bytes of the source has a number of 32 bits
abbrev pub MaySkip : ℕ → Source → Type 0
MaySkip n (Base from) = from + n < 2 ^ 32
MaySkip n Zeros = ⊤
MaySkip n (Given bytes from) = from + n < 2 ^ 32

abbrev pub MaySkipTo : ℕ → ℕ → List Piece → Type 0
MaySkipTo start place [] = ⊤
MaySkipTo start place (p ∷ ps) = MaySkip (place - start) p.source

-- ---- pieces that are added

-- what the first piece, which begins at `start`, has before the place
abbrev pub front_of : ℕ → ℕ → List Piece → List Piece
front_of start place [] = []
front_of start place (p ∷ ps) = if nat_lt start place then (record { end = place; source = p.source }) ∷ [] else []

-- what it has from the place on
abbrev pub back_of : ℕ → ℕ → List Piece → List Piece
back_of start place [] = []
back_of start place (p ∷ ps) = (record { end = p.end; source = skipped (place - start) p.source }) ∷ []

-- the bytes from `offset` to `stop`, between what stays of the pieces in which they begin and end
abbrev pub come_of : List Piece → ℕ → ℕ → ℕ → List ℕ → ℕ → List Piece
come_of pieces first last offset bytes stop =
    (front_of (end_of 0 (take first pieces)) offset (drop first pieces) ++ (record { end = stop; source = Given bytes 0 }) ∷ [])
    ++ back_of (end_of 0 (take last pieces)) stop (drop last pieces)

-- ---- forks afterwards

-- the fork shows over each base what f makes of what it showed
pub record Makes (f : List ℕ → List ℕ) (old new : ForkPieces) : Type 0 where
  pub pieces : ArePieces new
  pub base_len : new.base_len ≡ old.base_len
  pub shows : (base : List ℕ) → length base ≡ old.base_len → fork_shown base new ≡ f (fork_shown base old)

-- the fork shows what it showed
abbrev pub Keeps : ForkPieces → ForkPieces → Type 0
Keeps old new = Makes (λ bytes. bytes) old new

-- the same, by pieces
pub record IsTouched (old new : ForkPieces) : Type 0 where
  pub keeps : Keeps old new
  pub touched : new.touched ≡ true
  pub length_is : fork_length new ≡ fork_length old

-- the fork is the base's, which has so many bytes
pub record IsUntouched (count : ℕ) (fork : ForkPieces) : Type 0 where
  pub pieces : ArePieces fork
  pub base_len : fork.base_len ≡ count
  pub untouched : fork.touched ≡ false
