-- What is said about each image that has the bytes which were read.
use Rattle.std.specs.Prelude.{◌≡◌, ℕ, ◌+◌, ◌<◌, ◌≤◌, ◌⊎◌, List, length, take, drop}

-- this holds of each image of these
abbrev pub OfEach : (List ℕ → Type 0) → (List ℕ → Type 0) → Type 0
OfEach Holds Fact = (image : List ℕ) → Holds image → Fact image

-- the image has these bytes from a place on
abbrev pub HasAt : ℕ → List ℕ → List ℕ → Type 0
HasAt place bytes image = bytes ≡ take (length bytes) (drop place image)

-- the image has so many bytes
abbrev pub HasLength : ℕ → List ℕ → Type 0
HasLength len image = length image ≡ len

-- the image has bytes up to this place
abbrev pub ReachesTo : ℕ → List ℕ → Type 0
ReachesTo end image = end ≤ length image

-- the image ends before this place
abbrev pub EndsBefore : ℕ → List ℕ → Type 0
EndsBefore end image = length image < end

-- a read of anything may fail
abbrev pub AllFail : (ℕ → ℕ → Type 0) → Type 0
AllFail Fails = (place count : ℕ) → Fails place count

-- where a read fails by the first, it does by the second
abbrev pub FailsWhere : (ℕ → ℕ → Type 0) → (ℕ → ℕ → Type 0) → Type 0
FailsWhere new old = (place count : ℕ) → new place count → old place count

-- ---- ranges

-- the part is the range of an image from a byte on, of so many bytes, which lies in it
pub record IsRange (start len : ℕ) (image part : List ℕ) : Type 0 where
  pub inside : start + len ≤ length image
  pub bytes : part ≡ take len (drop start image)

-- the part is that range of one of these images
abbrev pub IsRangeOf : (List ℕ → Type 0) → ℕ → ℕ → List ℕ → Type 0
IsRangeOf Holds start len part = (image : List ℕ) × Holds image × IsRange start len image part

-- a read in a range fails where it leads past its end, or where that of the whole fails
abbrev pub FailsInRange : (ℕ → ℕ → Type 0) → ℕ → ℕ → ℕ → ℕ → Type 0
FailsInRange Fails start len place count = (len < place + count) ⊎ Fails (start + place) count
