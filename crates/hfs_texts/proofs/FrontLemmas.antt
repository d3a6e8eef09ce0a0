-- Bytes that are written one behind the other, also where writing ends in them.
use Rattle.std.proofs.Common.{◌≡◌, ◌∙◌, sym, ap, subst, arith, ℕ, ◌+◌, ◌-◌, ◌≤◌, List, [], ◌++◌, length, take, drop, min, Option}
use Rattle.std.specs.Io.KnownBytes.{Appends}
use Rattle.std.proofs.KnownBytes.{Appends-nil, Appends-trans}
use Rattle.std.proofs.lemmas.List.{append-nil, take-append-le, take_min}
use Rattle.std.proofs.Math.Seq.{take-add, take-append-add, take-append_seam}
use Rattle.hfs_texts.specs.Writing.{AppendsFront}

-- a beginning of the first part is one of the whole
pub front-left : (n : ℕ) (xs ys : List ℕ) → take n xs ≡ take (min n (length xs)) (xs ++ ys)
front-left n xs ys = sym (take_min n xs) ∙ sym (take-append-le (min n (length xs)) xs ys (omega arith))

pub front_first : (a b : Option (List ℕ)) (xs ys : List ℕ) → AppendsFront a b xs → AppendsFront a b (xs ++ ys)
front_first a b xs ys (n, front) = (min n (length xs), subst (Appends a b) (front-left n xs ys) front)

-- the first part, and a beginning of the second
pub front_next : (a b c : Option (List ℕ)) (xs ys : List ℕ) → Appends a b xs → AppendsFront b c ys → AppendsFront a c (xs ++ ys)
front_next a b c xs ys first (n, front) =
    (length xs + n, subst (Appends a c) (sym (take-append-add xs ys n)) (Appends-trans a b c xs (take n ys) first front))

-- a beginning of fewer bytes is one of more
pub front_more : (a b : Option (List ℕ)) (bytes : List ℕ) (few all : ℕ) → few ≤ all → AppendsFront a b (take few bytes)
    → AppendsFront a b (take all bytes)
front_more a b bytes few all le front =
    let sum : few + (all - few) ≡ all = omega (arith, le) in
    subst (AppendsFront a b) (sym (take-add few (all - few) bytes) ∙ ap (λ n. take n bytes) sum)
    (front_first a b (take few bytes) (take (all - few) (drop few bytes)) front)

-- nothing was written yet
pub front_none : (a : Option (List ℕ)) (bytes : List ℕ) → AppendsFront a a bytes
front_none a bytes = (0, Appends-nil a)

-- what was written whole was written from its first byte on
pub all_front : (old new : Option (List ℕ)) (bytes : List ℕ) → Appends old new bytes → AppendsFront old new bytes
all_front old new bytes all =
    let whole : take (length bytes) bytes ≡ bytes = ap (take (length bytes)) (sym (append-nil bytes)) ∙ take-append_seam bytes [] in
    (length bytes, subst (λ (l : List ℕ). Appends old new l) (sym whole) all)
