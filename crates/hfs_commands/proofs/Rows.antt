-- Bytes that are written one behind the other, also where writing ends in them.
use Rattle.std.proofs.Common.{◌≡◌, subst, ℕ, List, ◌++◌, length, replicate, Option}
use Rattle.std.specs.Io.KnownBytes.{Appends}
use Rattle.std.proofs.KnownBytes.{Appends-trans}
use Rattle.hfs_texts.proofs.FrontLemmas.{front_first, front_next}
use Rattle.hfs_encodings.specs.MacBinary.{filled, padding}
use Rattle.hfs_texts.specs.Writing.{AppendsFront}

pub whole_next : (a b c : Option (List ℕ)) (xs ys : List ℕ) → Appends a b xs → Appends b c ys → Appends a c (xs ++ ys)
whole_next a b c xs ys first second = Appends-trans a b c xs ys first second

-- ---- a fork, and zeros behind it

pub filled_first : (a b : Option (List ℕ)) (fork : List ℕ) → AppendsFront a b fork → AppendsFront a b (filled fork)
unfolding filled
filled_first a b fork front = front_first a b fork (replicate (padding (length fork)) 0) front

pub filled_next : (a b c : Option (List ℕ)) (fork : List ℕ) (n : ℕ) → n ≡ padding (length fork) → Appends a b fork → AppendsFront b c (replicate n 0) → AppendsFront a c (filled fork)
unfolding filled
filled_next a b c fork n is first front =
    front_next a b c fork (replicate (padding (length fork)) 0) first (subst (λ (k : ℕ). AppendsFront b c (replicate k 0)) is front)

pub filled_whole : (a b c : Option (List ℕ)) (fork : List ℕ) (n : ℕ) → n ≡ padding (length fork) → Appends a b fork → Appends b c (replicate n 0) → Appends a c (filled fork)
unfolding filled
filled_whole a b c fork n is first second =
    whole_next a b c fork (replicate (padding (length fork)) 0) first (subst (λ (k : ℕ). Appends b c (replicate k 0)) is second)

-- ---- what holds of a result
