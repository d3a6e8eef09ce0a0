-- Lemmas about the definitions of specs/Forks.antt.
use Rattle.std.proofs.Common.{◌≡◌, ℕ, ◌+◌, ◌-◌, ◌^◌, ◌<◌, ◌≤◌, Bool, true, false, cond, ltb, List, ◌++◌, length, take, drop, replicate, refl, ◌∙◌, ap, arith, append-nil, length-append, length-drop, length-take}
use Rattle.std.specs.Prelude.{max}
use Rattle.std.proofs.lemmas.List.{take_all, take_at, drop_at, length-replicate}
use Rattle.std.proofs.lemmas.Bool.{ltb-true}
use Rattle.byteorder.specs.Endian.{big_bytes}
use Rattle.hfs_model.specs.declared.item.Kind.{Kind}
use Rattle.hfs_model.specs.declared.item.Kind.TheVariants as kind
use Rattle.hfs_model.specs.declared.call.Fork.{Fork}
use Rattle.hfs_model.specs.declared.call.Fork.TheVariants.{DataFork, ResFork}
use Rattle.hfs_model.specs.declared.codes.TheConstants.{END_OF_FILE}
use Rattle.hfs_model.specs.declared.reply.Value.TheVariants as value
use Rattle.hfs_model.specs.Children.{is_folder_kind}
use Rattle.hfs_model.specs.Replies.{success}
use Rattle.hfs_model.specs.Reading.{fork_part, part_of}
use Rattle.hfs_model.proofs.Facts.{true_false}
use Rattle.hfs_model.specs.Forks.{resized, laid_over, written, fork_bytes, kind_with_fork}

-- ---- bytes

-- the lowest four of the lowest eight
pub four_of_eight : (n : ℕ) → drop 4 (big_bytes 8 n) ≡ big_bytes 4 n
four_of_eight n = refl

pub length-resized : (n : ℕ) (bytes : List ℕ) → length (resized n bytes) ≡ n
unfolding resized
length-resized n bytes = omega (arith, length-append (take n bytes) (replicate (n - length bytes) 0), length-take n bytes, length-replicate {A = ℕ} (n - length bytes) 0)

-- new bytes leave the length, where they lie within the old ones
pub length-laid_over : (offset : ℕ) (new old : List ℕ) → offset + length new ≤ length old → length (laid_over offset new old) ≡ length old
length-laid_over offset new old within =
    omega (arith, length-append (take offset old) (new ++ drop (offset + length new) old), length-append new (drop (offset + length new) old), length-take offset old, length-drop (offset + length new) old)

pub length-written : (offset : ℕ) (new old : List ℕ) → length (written offset new old) ≡ max (length old) (offset + length new)
unfolding written
length-written offset new old =
    let n = max (length old) (offset + length new) in
    let whole = length-resized n old in
    let within : offset + length new ≤ length (resized n old) = omega (arith, whole) in
    length-laid_over offset new (resized n old) within ∙ whole

-- what was written of short bytes, and laid into short ones, is short
pub written_is_short : (offset : ℕ) (new old made : List ℕ) → length old < 2 ^ 32 → offset + length new < 2 ^ 32 → made ≡ written offset new old → length made < 2 ^ 32
written_is_short offset new old made few end is = omega (arith, ap (λ (l : List ℕ). length l) is, length-written offset new old)

-- to the length that there is
pub resized-same : (bytes : List ℕ) → resized (length bytes) bytes ≡ bytes
unfolding resized
resized-same bytes =
    let none : length bytes - length bytes ≡ 0 = omega arith in
    ap (λ (l : List ℕ). l ++ replicate (length bytes - length bytes) 0) (take_all (length bytes) bytes (omega arith)) ∙ ap (λ (n : ℕ). bytes ++ replicate n 0) none ∙ append-nil bytes

-- new bytes that lie within the old ones are found in their place, and the length stays
module _ (offset : ℕ) (new old : List ℕ) (within : offset + length new ≤ length old) where
  front : length (take offset old) ≡ offset
  front = omega (arith, length-take offset old)

  pub found : take (length new) (drop offset (laid_over offset new old)) ≡ new
  found = ap (λ (l : List ℕ). take (length new) l) (drop_at (take offset old) (new ++ drop (offset + length new) old) offset front) ∙ take_at new (drop (offset + length new) old) (length new) refl

  pub long : offset + length new ≤ length (laid_over offset new old)
  long = omega (arith, front, length-append (take offset old) (new ++ drop (offset + length new) old), length-append new (drop (offset + length new) old))

-- what was written is a part of the fork
pub written-part : (offset : ℕ) (new old : List ℕ) → part_of (written offset new old) offset (length new) ≡ success (value.Bytes new)
unfolding written
written-part offset new old =
    let n = max (length old) (offset + length new) in
    let within : offset + length new ≤ length (resized n old) = omega (arith, length-resized n old) in
    let whole = written_over within in
    let none = not_past _ _ whole in
    ap (λ (b : Bool). record { code = cond b END_OF_FILE (success value.Nothing).code; value = value.Bytes (take (length new) (drop offset (laid_over offset new (resized n old)))) }) none
    ∙ ap (λ (l : List ℕ). success (value.Bytes l)) (found offset new (resized n old) within)
  where
    written_over : offset + length new ≤ length (resized (max (length old) (offset + length new)) old) → offset + length new ≤ length (laid_over offset new (resized (max (length old) (offset + length new)) old))
    written_over within = long offset new (resized (max (length old) (offset + length new)) old) within

    not_past : (a b : ℕ) → a ≤ b → ltb b a ≡ false
    not_past a b h = elim (ltb b a) as (λ (t : Bool). ltb b a ≡ t → t ≡ false) [ true ↦ λ e. let less : b < a = ltb-true b a e in absurd (omega arith) | false ↦ λ e. refl ] refl

-- ---- a file's forks

pub own-fork : (size : ℕ) (fork : Fork) (bytes : List ℕ) (k : Kind) → is_folder_kind k ≡ false → fork_bytes fork (kind_with_fork size fork bytes k) ≡ bytes
own-fork size DataFork bytes (kind.Folder kept) file = absurd (true_false true refl file)
own-fork size ResFork bytes (kind.Folder kept) file = absurd (true_false true refl file)
own-fork size DataFork bytes (kind.File f) file = refl
own-fork size ResFork bytes (kind.File f) file = refl

pub other-fork : (size : ℕ) (fork other : Fork) (bytes : List ℕ) (k : Kind) → (other ≡ fork → ⊥) → fork_bytes other (kind_with_fork size fork bytes k) ≡ fork_bytes other k
other-fork size fork other bytes (kind.Folder kept) apart = refl
other-fork size DataFork DataFork bytes (kind.File f) apart = absurd (apart refl)
other-fork size DataFork ResFork bytes (kind.File f) apart = refl
other-fork size ResFork DataFork bytes (kind.File f) apart = refl
other-fork size ResFork ResFork bytes (kind.File f) apart = absurd (apart refl)

pub same-sort : (size : ℕ) (fork : Fork) (bytes : List ℕ) (k : Kind) → is_folder_kind (kind_with_fork size fork bytes k) ≡ is_folder_kind k
same-sort size fork bytes (kind.Folder kept) = refl
same-sort size fork bytes (kind.File f) = refl

pub file-part : (size : ℕ) (fork : Fork) (bytes : List ℕ) (offset count : ℕ) (k : Kind) → is_folder_kind k ≡ false → fork_part fork offset count (kind_with_fork size fork bytes k) ≡ part_of bytes offset count
file-part size DataFork bytes offset count (kind.Folder kept) file = absurd (true_false true refl file)
file-part size ResFork bytes offset count (kind.Folder kept) file = absurd (true_false true refl file)
file-part size DataFork bytes offset count (kind.File f) file = refl
file-part size ResFork bytes offset count (kind.File f) file = refl
