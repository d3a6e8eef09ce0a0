-- Pieces of forks that are read.
use Rattle.std.proofs.Common.{◌≡◌, ℕ, zero, suc, ◌+◌, ◌-◌, ◌*◌, ◌<◌, ◌≤◌, Bool, true, false, List, [], ◌∷◌, ◌++◌, length, get_or, take, drop, min, replicate, Option, Some, None, inl, inr, refl, sym, ap, ◌∙◌, arith, length-append, length-take}
use Rattle.std.specs.List.{AllClonesOf, AppendsClonesOf}
use Rattle.std.proofs.Math.Seq.{take-nil}
use Rattle.std.proofs.lemmas.List.{drop_more, length-replicate, take_min, take-replicate, take-append-le, take-take}
use Rattle.hfs_source.proofs.Written.{take-append}
use Rattle.hfs_bag.specs.declared.piece.Piece.{Piece}
use Rattle.hfs_bag.specs.Forks.{BeginsIn, ReadsOn, first_bytes, piece_bytes, pieces_bytes}

-- ---- zeros

all-same : (x : ℕ) (ys : List ℕ) → AllClonesOf (λ (a b : ℕ). b ≡ a) x ys → ys ≡ replicate (length ys) x
all-same x [] all = refl
all-same x (y ∷ ys) all =
    let first : y ≡ x = elim all.0 [ inl e ↦ e | inr e ↦ e ] in
    λ i. first i ∷ all-same x ys all.1 i

pub zeros_put : (old new : List ℕ) (count : ℕ) → old ≡ [] → AppendsClonesOf (λ (a b : ℕ). b ≡ a) (take count old) new 0 → new ≡ replicate (length new) 0
zeros_put old new count none appended =
    let ys = appended.0 in
    let kept : take count old ≡ [] = ap (take count) none ∙ take-nil count in
    let whole : new ≡ ys = appended.1 ∙ ap (λ (l : List ℕ). l ++ ys) kept in
    whole ∙ all-same 0 ys appended.2 ∙ ap (λ (n : ℕ). replicate n 0) (sym (ap length whole))

-- ---- parts of bytes

-- the first of the bytes that a read gave are those of the image
pub held_first : (image into : List ℕ) (place len : ℕ) → len ≤ length into → into ≡ take (length into) (drop place image) → take len into ≡ take (length (take len into)) (drop place image)
held_first image into place len fits held =
    let long : length (take len into) ≡ len = omega (arith, length-take len into, fits) in
    ap (take len) held ∙ take-take len (length into) (drop place image) fits ∙ ap (λ (n : ℕ). take n (drop place image)) (sym long)

-- ---- the beginning of a piece

-- there are so many bytes, no fewer than were read, and these are the first of them
record Begins (most : ℕ) (all new : List ℕ) : Type 0 where
  pub few : length all ≤ most
  pub enough : length new ≤ length all
  pub first : take (length new) all ≡ new

begins : (fills : Bool) (image new : List ℕ) (first : Option ℕ) (most : ℕ) → length new ≤ most → BeginsIn first new image → Begins most (first_bytes fills image first most) new
begins fills image new None most fits is = record {
  few = omega (arith, length-replicate {A = ℕ} most 0);
  enough = omega (arith, length-replicate {A = ℕ} most 0, fits);
  first = take-replicate (length new) most 0 fits ∙ sym is;
}
begins true image new (Some n) most fits is =
    let whole = drop (512 * n) image in
    let long : length new ≤ length whole = omega (arith, ap length is, length-take (length new) whole) in
    record {
      few = omega (arith, length-take most (whole ++ replicate most 0));
      enough = omega (arith, length-take most (whole ++ replicate most 0), length-append whole (replicate most 0), length-replicate {A = ℕ} most 0, fits);
      first = take-take (length new) most (whole ++ replicate most 0) fits ∙ take-append-le (length new) whole (replicate most 0) long ∙ sym is;
    }
begins false image new (Some n) most fits is =
    let whole = drop (512 * n) image in
    let long : length new ≤ length whole = omega (arith, ap length is, length-take (length new) whole) in
    record {
      few = omega (arith, length-take most whole);
      enough = omega (arith, length-take most whole, long, fits);
      first = take-take (length new) most whole fits ∙ sym is;
    }

-- ---- what is left

-- no bytes are
pub reads_none : (bytes piece : List ℕ) (left : ℕ) → left ≡ 0 → piece ≡ [] → ReadsOn piece (take left bytes) (take left bytes)
reads_none bytes piece left e none = record {
  bytes = ap (λ (p : List ℕ). p ++ take left bytes) (sym none);
  none = λ is. ap (λ (n : ℕ). take n bytes) e;
}

module _ (pieces : List Piece) (next : ℕ) (piece : Piece) (left left' len : ℕ) (new : List ℕ) (within : next < length pieces) (is : piece ≡ get_or pieces next piece)
    (long : length new ≡ len) (some : 1 ≤ piece.len) (least : len ≡ min piece.len left) (after : left' ≡ left - len) (begun : 0 < left) where
  -- the piece that is next was read, or as much of it as is left
  pub reads_piece : (fills : Bool) (image : List ℕ) → BeginsIn piece.first new image
      → ReadsOn new (take left (pieces_bytes fills image (drop next pieces))) (take left' (pieces_bytes fills image (drop (next + 1) pieces)))
  reads_piece fills image here =
      let rest = pieces_bytes fills image (drop (next + 1) pieces) in
      let all = piece_bytes fills image piece in
      let start = begins fills image new piece.first piece.len (omega (arith, long, least)) here in
      let split : drop next pieces ≡ piece ∷ drop (next + 1) pieces = drop_more pieces next piece within ∙ ap (λ (p : Piece). p ∷ drop (next + 1) pieces) (sym is) in
      let first : min left (length all) ≡ length new = omega (arith, start.few, start.enough, long, least) in
      let fewer : left - length all ≡ left' = omega (arith, start.few, start.enough, long, least, after) in
      record {
        bytes =
            ap (λ (ps : List Piece). take left (pieces_bytes fills image ps)) split
            ∙ take-append left all rest
            ∙ ap (λ (l : List ℕ). l ++ take (left - length all) rest) (sym (take_min left all) ∙ ap (λ (n : ℕ). take n all) first ∙ start.first)
            ∙ ap (λ (n : ℕ). new ++ take n rest) fewer;
        none = λ e. absurd (omega (arith, ap length e, long, least, some, begun));
      }
