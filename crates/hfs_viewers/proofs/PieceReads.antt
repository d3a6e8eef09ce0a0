-- A fork that is read by pieces, from its beginning on.
use Rattle.std.proofs.Common.{◌≡◌, ℕ, ◌+◌, ◌-◌, ◌<◌, ◌≤◌, List, [], ◌∷◌, ◌++◌, length, take, drop, replicate, refl, sym, ◌∙◌, ap, arith, append-nil, append_assoc, length-append, length-take, length-drop}
use Rattle.std.specs.Prelude.{max}
use Rattle.std.proofs.lemmas.List.{take_all, take_at, drop_all, take-append-drop, length-replicate}
use Rattle.hfs_model.specs.Forks.{resized, written}
use Rattle.hfs_viewers.specs.declared.fork.ForkPieces.{ForkPieces}
use Rattle.hfs_viewers.specs.Pieces.{ArePieces, fork_length, fork_shown}
use Rattle.hfs_viewers.specs.PieceEdits.{IsUntouched, Makes}
use Rattle.hfs_viewers.proofs.EditedPieces.{length-shown}
use Rattle.hfs_viewers.specs.MountedForks.{AreAllOf}

-- bytes that are written at the end come behind the others
written-end : (old new : List ℕ) (offset : ℕ) → offset ≡ length old → written offset new old ≡ old ++ new
unfolding written resized
written-end old new offset is =
    let n = max (length old) (offset + length new) in
    let zeros : List ℕ = replicate (n - length old) 0 in
    let whole : take n old ≡ old = take_all n old (omega arith) in
    let front : take offset (take n old ++ zeros) ≡ old = ap (λ (l : List ℕ). take offset (l ++ zeros)) whole ∙ take_at old zeros offset (sym is) in
    let long : length (take n old ++ zeros) ≤ offset + length new = omega (arith, is, length-append (take n old) zeros, length-take n old, length-replicate {A = ℕ} (n - length old) 0) in
    let none : drop (offset + length new) (take n old ++ zeros) ≡ [] = drop_all (offset + length new) (take n old ++ zeros) long in
    (λ i. front i ++ (new ++ none i)) ∙ ap (λ (l : List ℕ). old ++ l) (append-nil new)

-- the pieces that were read so far, of a fork of so many bytes, what is left of it, and where that begins
pub record AreRead (whole : List ℕ) (size : ℕ) (fork : ForkPieces) (offset : ℕ) (left : List ℕ) : Type 0 where
  pub pieces : ArePieces fork
  pub base_len : fork.base_len ≡ 0
  pub at : offset ≡ length (fork_shown [] fork)
  pub ends : offset + length left ≡ size
  pub rest : fork_shown [] fork ++ left ≡ whole

none_shown : (fork : ForkPieces) → IsUntouched 0 fork → fork_shown [] fork ≡ []
none_shown fork is = ap (λ t. Rattle.std.proofs.Common.cond t (Rattle.hfs_viewers.specs.Pieces.bytes_from [] 0 fork.pieces) []) is.untouched

pub none_read : (whole : List ℕ) (size : ℕ) (fork : ForkPieces) → IsUntouched 0 fork → size ≡ length whole → AreRead whole size fork 0 whole
none_read whole size fork is long =
    let none = none_shown fork is in
    record {
      pieces = is.pieces;
      base_len = is.base_len;
      at = ap (λ (l : List ℕ). length l) (sym none);
      ends = omega (arith, long);
      rest = ap (λ (l : List ℕ). l ++ whole) none;
    }

module _ (whole : List ℕ) (size : ℕ) (fork : ForkPieces) (offset : ℕ) (left : List ℕ) (read : AreRead whole size fork offset left) where
  pub reaches : offset ≤ fork_length fork
  reaches = let all = length-shown fork [] read.pieces (sym read.base_len) in let at = read.at in omega (arith, all, at)

  -- no part of what is left is longer than that
  pub ends-within : (n : ℕ) (part : List ℕ) → part ≡ take n left → offset + length part ≤ size
  ends-within n part is = let ends = read.ends in omega (arith, ends, ap (λ (l : List ℕ). length l) is, length-take n left)

  -- so the place behind a part has a number of 32 bits
  pub small : size < 4294967296 → (n : ℕ) (part slice : List ℕ) → part ≡ take n left → slice ≡ part → offset + length slice < 4294967296
  small few n part slice is same = omega (arith, few, ends-within n part is, ap (λ (l : List ℕ). length l) same)

  -- a part has a byte
  pub shrinks : offset < size → (n : ℕ) → 0 < n → (part slice : List ℕ) → part ≡ take n left → slice ≡ part → size - (offset + length slice) < size - offset
  shrinks before n some part slice is same =
      let ends = read.ends in omega (arith, before, some, ends, ap (λ (l : List ℕ). length l) is, ap (λ (l : List ℕ). length l) same, length-take n left)

  -- a part more was read
  pub read_more : (n : ℕ) (part now : List ℕ) (new : ForkPieces) (next : ℕ) → part ≡ take n left → now ≡ drop n left → Makes (written offset part) fork new → next ≡ offset + length part → AreRead whole size new next now
  read_more n part now new next part_is now_is makes next_is =
      let shown : fork_shown [] new ≡ fork_shown [] fork ++ part = makes.shows [] (sym read.base_len) ∙ written-end (fork_shown [] fork) part offset read.at in
      let ends = read.ends in
      let at = read.at in
      record {
        pieces = makes.pieces;
        base_len = makes.base_len ∙ read.base_len;
        at = omega (arith, next_is, at, ap (λ (l : List ℕ). length l) shown, length-append (fork_shown [] fork) part);
        ends = omega (arith, next_is, ends, ap (λ (l : List ℕ). length l) part_is, ap (λ (l : List ℕ). length l) now_is, length-take n left, length-drop n left);
        rest =
            (λ i. shown i ++ now_is i)
            ∙ append_assoc (fork_shown [] fork) part (drop n left)
            ∙ ap (λ (l : List ℕ). fork_shown [] fork ++ (l ++ drop n left)) part_is
            ∙ ap (λ (l : List ℕ). fork_shown [] fork ++ l) (take-append-drop n left)
            ∙ read.rest;
      }

  no_more : (l : List ℕ) → length l ≡ 0 → [] ≡ l
  no_more [] none = refl
  no_more (x ∷ l) none = absurd (omega (arith, none))

  -- all was read
  pub all_read : size ≤ offset → AreAllOf whole fork
  all_read past =
      let ends = read.ends in
      record {
        pieces = read.pieces;
        base_len = read.base_len;
        shows = sym (append-nil (fork_shown [] fork)) ∙ ap (λ (l : List ℕ). fork_shown [] fork ++ l) (no_more left (omega (arith, past, ends))) ∙ read.rest;
      }
