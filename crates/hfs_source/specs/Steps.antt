-- What a reader did, and what that says about the bytes it reads from.
use Rattle.std.specs.Prelude.{ℕ, ◌+◌, List, [], ◌∷◌, length, ⊤, Option, Some, None, IfSome}
use Rattle.std.specs.Option.{option_map}
use Rattle.hfs_source.specs.Images.{HasAt, HasLength}

-- it went to a place, or to the end, which is this place, or these bytes were read, or a step failed
pub data ReadStep : Type 0 where
  went : ℕ → ReadStep
  ended : ℕ → ReadStep
  came : List ℕ → ReadStep
  lost : ReadStep

-- where it is after these steps, of which the last is first
abbrev pub place_after : List ReadStep → Option ℕ
place_after [] = None
place_after (went place ∷ before) = Some place
place_after (ended place ∷ before) = Some place
place_after (came bytes ∷ before) = option_map (λ place. place + length bytes) (place_after before)
place_after (lost ∷ before) = None

-- the image ends where the reader found its end, and has each byte that was read where the reader was
abbrev pub IsReadFrom : List ReadStep → List ℕ → Type 0
IsReadFrom [] image = ⊤
IsReadFrom (went place ∷ before) image = IsReadFrom before image
IsReadFrom (ended place ∷ before) image = HasLength place image × IsReadFrom before image
IsReadFrom (came bytes ∷ before) image = IfSome (place_after before) (λ place. HasAt place bytes image) × IsReadFrom before image
IsReadFrom (lost ∷ before) image = IsReadFrom before image
