-- What is told of bytes in memory, where it is told of each image that has what was read.
use Rattle.std.specs.Prelude.{◌≡◌, List, ℕ}
use Rattle.hfs_source.specs.Images.{OfEach}

-- of bytes in memory there is one image
abbrev pub IsMemory : List ℕ → List ℕ → Type 0
IsMemory bytes image = image ≡ bytes

-- where what holds after a call on bytes in memory held before, they are the same; and what is told of each image that holds then is told of them
abbrev pub MemoryIsTold : Type 0
MemoryIsTold =
    (old new told : List ℕ) (value : List ℕ → List ℕ) → OfEach (IsMemory new) (IsMemory old) → OfEach (IsMemory new) (λ image. told ≡ value image)
    → (new ≡ old) × (told ≡ value old)
