-- Files whose nodes lie in runs of blocks, with a patch over the blocks.
use Rattle.std.specs.Prelude.{◌≡◌, ◌<◌, length, Some, ℕ, Bool, false, ◌||◌, nat_eq, if◌then◌else◌, List, [], ◌∷◌}
use Rattle.hfs_blocks.specs.Layers.{Changes}
use Rattle.hfs_fields.specs.Each.{Each}
use Rattle.hfs_btree.specs.Sound.{IsOther, IsDistinct}

-- ---- that no number is there twice is a proposition

other-prop : (m k : ℕ) (x y : IsOther m k) → x ≡ y
other-prop m k x y i e = none (x e) (y e) i
  where
    none : (a b : ⊥) → a ≡ b
    none a b = absurd a

each-prop : (m : ℕ) (ns : List ℕ) (x y : Each (IsOther m) ns) → x ≡ y
each-prop m [] x y i = tt
each-prop m (n ∷ ns) x y i = (other-prop m n x.0 y.0 i, each-prop m ns x.1 y.1 i)

pub distinct-prop : (ns : List ℕ) (x y : IsDistinct ns) → x ≡ y
distinct-prop [] x y i = tt
distinct-prop (n ∷ ns) x y i = (each-prop n ns x.0 y.0 i, distinct-prop ns x.1 y.1 i)

-- ---- blocks besides

-- whether the number is one of these
abbrev pub is_one_of : List ℕ → ℕ → Bool
is_one_of [] n = false
is_one_of (m ∷ ms) n = nat_eq m n || is_one_of ms n

-- the blocks, except for those of these numbers
abbrev pub beside : List ℕ → (ℕ → List ℕ) → ℕ → List ℕ
beside numbers blocks n = if is_one_of numbers n then [] else blocks n

-- ---- blocks that are within

-- each block that there is lies among so many, and has 512 bytes
abbrev pub AreWithin : Changes → ℕ → Type 0
AreWithin changes count = (n : ℕ) (b : List ℕ) → changes n ≡ Some b → (n < count) × (length b ≡ 512)
