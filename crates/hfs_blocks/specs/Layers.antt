-- Blocks that are laid over other blocks.
use Rattle.std.specs.Prelude.{◌≡◌, ℕ, ◌<◌, ◌⊎◌, List, length, Option, Some, None, IsSome, nat_eq, if◌then◌else◌, unwrap_or, refl}
use Rattle.std.specs.Map.{lookup, keys_of}
use Rattle.std.specs.Option.{option_or}

-- blocks by number, where there are some
abbrev pub Changes : Type 0
Changes = ℕ → Option (List ℕ)

-- numbers with their blocks
abbrev pub Numbered : Type 0
Numbered = List (ℕ × List ℕ)

-- the blocks by their numbers
abbrev pub changes : Numbered → Changes
changes blocks n = lookup (nat_eq n) blocks

-- each block that there is has 512 bytes
abbrev pub AreWhole : Changes → Type 0
AreWhole changes = (n : ℕ) (b : List ℕ) → changes n ≡ Some b → length b ≡ 512

-- the blocks that there are are among the first count, and each has 512 bytes
abbrev pub AreWithin : Changes → ℕ → Type 0
AreWithin changes count = (n : ℕ) (b : List ℕ) → changes n ≡ Some b → (n < count) × (length b ≡ 512)

-- the numbers of the blocks
abbrev pub numbers : Numbered → List ℕ
numbers blocks = keys_of blocks

-- new has a block of each number of which one of the two has one, and of no other
pub record HasJoined (first second new : Changes) : Type 0 where
  pub of_first : (k : ℕ) → IsSome (first k) → IsSome (new k)
  pub of_second : (k : ℕ) → IsSome (second k) → IsSome (new k)
  pub of_none_else : (k : ℕ) → IsSome (new k) → IsSome (first k) ⊎ IsSome (second k)

-- the blocks that there are, with b as the one of number n
abbrev pub with_change : Changes → ℕ → List ℕ → Changes
with_change changes n b k = if nat_eq n k then Some b else changes k

-- the blocks that there are, and below them those of another
abbrev pub over : Changes → (ℕ → List ℕ) → ℕ → List ℕ
over changes below n = unwrap_or (changes n) (below n)

-- over these blocks, new shows the same as old
abbrev pub ShowsSame : (ℕ → List ℕ) → Changes → Changes → Type 0
ShowsSame below old new = (k : ℕ) → over new below k ≡ over old below k

-- over these blocks, new shows those of another that was laid over old
abbrev pub ShowsLaid : (ℕ → List ℕ) → Changes → Changes → Changes → Type 0
ShowsLaid below old other new = (k : ℕ) → over new below k ≡ over other (over old below) k

pub length-over : (changes : Changes) (below : ℕ → List ℕ) (n : ℕ) → AreWhole changes → length (below n) ≡ 512 → length (over changes below n) ≡ 512
length-over changes below n whole own = by (changes n) refl
  where
    by : (o : Option (List ℕ)) → changes n ≡ o → length (unwrap_or o (below n)) ≡ 512
    by None e = own
    by (Some b) e = whole n b e

-- over these blocks, a patch shows the blocks of another that was laid over the old one
abbrev pub IsLaid : (ℕ → List ℕ) → Numbered → Numbered → Numbered → Type 0
IsLaid below old other new = ShowsLaid below (changes old) (changes other) (changes new)

-- where the old blocks are whole and among so many, the new ones are
abbrev pub KeepsWithin : Numbered → Numbered → ℕ → Type 0
KeepsWithin old new count = AreWithin (changes old) count → AreWithin (changes new) count

-- new has a block of each number of which old has one
abbrev pub HasEachOf : Changes → Changes → Type 0
HasEachOf old new = (k : ℕ) → IsSome (old k) → IsSome (new k)

-- b is the block of number n, and the others are the same
abbrev pub HasChange : ℕ → List ℕ → Changes → Changes → Type 0
HasChange n b old new = (k : ℕ) → new k ≡ (if nat_eq n k then Some b else old k)

-- the blocks of another, and the old ones where it has none
abbrev pub HasChangesOf : Changes → Changes → Changes → Type 0
HasChangesOf other old new = (k : ℕ) → new k ≡ option_or (other k) (old k)
