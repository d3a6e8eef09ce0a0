-- The first line of bytes ends at the first line feed.
use Rattle.std.proofs.Common.{◌≡◌, ℕ, ◌+◌, ◌<◌, ◌≤◌, Bool, true, false, cond, List, [], ◌∷◌, length, take, drop, Some, None, refl, arith, nat_eq, nat_lt, ◌-◌, length-drop, take_all}
use Rattle.std.specs.Prelude.{position}
use Rattle.std.specs.List.{slice_split, All, position_or_len}
use Rattle.std.proofs.lemmas.Bool.{ne_eqb}
use Rattle.std.proofs.lemmas.List.Elements.{All-from_get_or}
use Rattle.std.proofs.lemmas.List.Sums.{fails_before_first}
use Rattle.std.proofs.lemmas.List.Splits.{slice_split_none, slice_split_first, length-slice_split}
use borrow.Author.Tests.{ltb-true, ltb-false}
use Rattle.hfs_scripts.specs.Scripts.{without_empty_end, lines_of}

-- is a line feed
abbrev feeds : ℕ → Bool
feeds byte = nat_eq byte 10

pub without_empty_end-more : (piece : List ℕ) (pieces : List (List ℕ)) → 0 < length pieces → without_empty_end (piece ∷ pieces) ≡ piece ∷ without_empty_end pieces
without_empty_end-more piece [] some = let no : ⊥ = omega arith in absurd no
without_empty_end-more piece (next ∷ more) some = refl

found : (test : Bool) (place end : ℕ) → Some end ≡ cond test (Some place) None → (test ≡ true) × (end ≡ place)
found true place end h = (refl, cc)
found false place end h = cc

missed : (test : Bool) (place : ℕ) → None ≡ cond test (Some place) None → test ≡ false
missed true place h = cc
missed false place h = refl

pub lines_of-found : (bytes : List ℕ) (end : ℕ) → Some end ≡ position feeds bytes → lines_of bytes ≡ take end bytes ∷ lines_of (drop (end + 1) bytes)
unfolding lines_of
lines_of-found bytes end h =
    let both = found (nat_lt (position_or_len feeds bytes) (length bytes)) (position_or_len feeds bytes) end h in
    let within : position_or_len feeds bytes < length bytes = ltb-true _ _ both.0 in
    rw (slice_split_first feeds bytes 0 within, both.1)
    (without_empty_end-more (take (position_or_len feeds bytes) bytes) (slice_split feeds (drop (position_or_len feeds bytes + 1) bytes)) (omega (arith, length-slice_split feeds (drop (position_or_len feeds bytes + 1) bytes))))

pub lines_of-last : (bytes : List ℕ) → 0 < length bytes → None ≡ position feeds bytes → lines_of bytes ≡ bytes ∷ lines_of []
unfolding lines_of
lines_of-last bytes some h =
    let beyond : length bytes ≤ position_or_len feeds bytes = ltb-false _ _ (missed (nat_lt (position_or_len feeds bytes) (length bytes)) (position_or_len feeds bytes) h) in
    let none : All (λ byte. feeds byte ≡ false) bytes = All-from_get_or (λ byte. feeds byte ≡ false) bytes 0 (λ i l. fails_before_first feeds bytes i 0 (omega arith)) in
    rw (slice_split_none feeds bytes none, ne_eqb (length bytes) 0 (omega arith)) refl

-- what stands from a place on
pub tail-is : (bytes : List ℕ) (start : ℕ) → take (length bytes - start) (drop start bytes) ≡ drop start bytes
tail-is bytes start = take_all (length bytes - start) (drop start bytes) (omega (arith, length-drop start bytes))

pub lines_of-first : (bytes : List ℕ) (end : ℕ) → Some end ≡ position feeds bytes
    → lines_of bytes ≡ take end bytes ∷ lines_of (take (length bytes - (end + 1)) (drop (end + 1) bytes))
lines_of-first bytes end h = rw (tail-is bytes (end + 1)) (lines_of-found bytes end h)
