-- What was done with a new file, and which bytes it has then.
use Rattle.std.specs.Prelude.{ℕ, ◌+◌, ◌-◌, List, [], ◌∷◌, ◌++◌, length, take, drop, replicate, Option, Some, None}
use Rattle.std.specs.Option.{option_map}

-- it went to a place; these bytes were written where it was; it got this length; a step failed that changed no byte; or one that may have
pub data WriteStep : Type 0 where
  went : ℕ → WriteStep
  wrote : List ℕ → WriteStep
  sized : ℕ → WriteStep
  strayed : WriteStep
  spoiled : WriteStep

-- bytes with as many zeros after them as make them so many, where they are fewer
abbrev pub filled_to : ℕ → List ℕ → List ℕ
filled_to len bytes = bytes ++ replicate (len - length bytes) 0

-- so many bytes: cut, or with zeros after them
abbrev pub sized_to : ℕ → List ℕ → List ℕ
sized_to len bytes = take len (filled_to len bytes)

-- bytes in which a piece was laid at a place: what lies before it and was never written is zeros, and no byte changes nothing
abbrev pub laid_at : ℕ → List ℕ → List ℕ → List ℕ
laid_at place [] bytes = bytes
laid_at place (byte ∷ more) bytes = take place (filled_to place bytes) ++ ((byte ∷ more) ++ drop (place + length (byte ∷ more)) bytes)

-- the same where the place and the bytes are known
abbrev pub laid : Option ℕ → List ℕ → Option (List ℕ) → Option (List ℕ)
laid None piece known = None
laid (Some place) piece known = option_map (laid_at place piece) known

-- where a new file is after these steps, of which the last is first
abbrev pub place_after : List WriteStep → Option ℕ
place_after [] = Some 0
place_after (went place ∷ before) = Some place
place_after (wrote piece ∷ before) = option_map (λ place. place + length piece) (place_after before)
place_after (sized len ∷ before) = place_after before
place_after (strayed ∷ before) = None
place_after (spoiled ∷ before) = None

-- the bytes that it has then, where they are known
abbrev pub bytes_after : List WriteStep → Option (List ℕ)
bytes_after [] = Some []
bytes_after (went place ∷ before) = bytes_after before
bytes_after (wrote piece ∷ before) = laid (place_after before) piece (bytes_after before)
bytes_after (sized len ∷ before) = option_map (sized_to len) (bytes_after before)
bytes_after (strayed ∷ before) = bytes_after before
bytes_after (spoiled ∷ before) = None
