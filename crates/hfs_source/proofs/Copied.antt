-- The bytes of blocks that are copied, and of those that are still to come.
use Rattle.std.proofs.Common.{◌≡◌, ℕ, zero, suc, ◌+◌, ◌-◌, ◌*◌, ◌≤◌, List, ◌++◌, length, take, drop, Option, Some, None, refl, sym, ap, subst, ◌∙◌, arith, append_assoc, length-append, length-take, length-drop}
use Rattle.std.specs.Prelude.{IfSome}
use Rattle.std.specs.List.{flat_map, range_with_len}
use Rattle.std.proofs.lemmas.List.Concat.{flat_map-append}
use Rattle.std.proofs.lemmas.List.{take_all, take-take, drop-take, drop-drop, take-append-le, take-append-drop}
use Rattle.std.proofs.lemmas.Slice.{take-put_mid}
use borrow.Rule.Slice.PartMut.{put_mid, post_of}
use Rattle.hfs_source.specs.Sparse.{HoldsFrom}
use Rattle.hfs_blocks.specs.Blocks.{block_at}

-- ---- of an image that may be known

-- behind these bytes those of these blocks make these bytes
abbrev pub Completes : Option (List ℕ) → List ℕ → List ℕ → (List ℕ → List ℕ) → Type 0
Completes known bytes rest whole = IfSome known (λ image. bytes ++ flat_map (block_at image) rest ≡ whole image)

-- some of the blocks were appended
appended : (known now : Option (List ℕ)) → now ≡ known → (bytes more : List ℕ) (here rest : List ℕ) (whole : List ℕ → List ℕ)
    → IfSome now (λ image. more ≡ bytes ++ flat_map (block_at image) here) → Completes known bytes (here ++ rest) whole → Completes known more rest whole
appended None now same bytes more here rest whole own all = tt
appended (Some image) now same bytes more here rest whole own all =
    let own' : more ≡ bytes ++ flat_map (block_at image) here = subst (λ o. IfSome o (λ image. more ≡ bytes ++ flat_map (block_at image) here)) same own in
    ap (λ l. l ++ flat_map (block_at image) rest) own'
    ∙ append_assoc bytes (flat_map (block_at image) here) (flat_map (block_at image) rest)
    ∙ ap (λ l. bytes ++ l) (sym (flat_map-append (block_at image) here rest))
    ∙ all

-- ---- the blocks of a range stand side by side

take-add : (a b : ℕ) (xs : List ℕ) → take (a + b) xs ≡ take a xs ++ take b (drop a xs)
take-add a b xs =
    sym (take-append-drop a (take (a + b) xs))
    ∙ (λ i. take-take a (a + b) xs (let le : a ≤ a + b = omega arith in le) i ++ drop-take a b xs i)

pub flat-range : (image : List ℕ) (first n : ℕ) → flat_map (block_at image) (range_with_len first n) ≡ take (n * 512) (drop (512 * first) image)
flat-range image first zero = refl
flat-range image first (suc n) =
    let all : suc n * 512 ≡ 512 + n * 512 = omega arith in
    let place : 512 * (first + 1) ≡ 512 * first + 512 = omega arith in
    ap (λ l. block_at image first ++ l)
    (flat-range image (first + 1) n ∙ ap (λ m. take (n * 512) (drop m image)) place ∙ ap (take (n * 512)) (sym (drop-drop 512 (512 * first) image)))
    ∙ sym (take-add 512 (n * 512) (drop (512 * first) image)) ∙ ap (λ m. take m (drop (512 * first) image)) (sym all)

-- bytes that were filled up, and of which the rest was read
module _ (known : Option (List ℕ)) (first count from : ℕ) (bytes base zeros later into : List ℕ) (at : from ≡ length bytes)
    (filled : base ≡ take (from + count * 512) bytes ++ zeros) (long : length base ≡ from + count * 512)
    (laid : later ≡ put_mid from (from + count * 512 - from) base into) (fits : length into ≡ count * 512) where
  abbrev room : ℕ
  room = from + count * 512 - from

  whole : length (put_mid from room base into) ≤ from + length into
  whole = omega (
    arith,
    at,
    long,
    fits,
    length-append (take from base) (into ++ post_of from room base),
    length-append into (post_of from room base),
    length-take from base,
    length-drop room (drop from base),
    length-drop from base,
  )

  begins : take from base ≡ bytes
  begins = ap (take from) filled ∙ take-append-le from (take (from + count * 512) bytes) zeros (omega (arith, at, length-take (from + count * 512) bytes))
      ∙ take-take from (from + count * 512) bytes (omega arith) ∙ take_all from bytes (omega (arith, at))

  beside : later ≡ bytes ++ into
  beside = laid ∙ sym (take_all (from + length into) (put_mid from room base into) whole)
      ∙ take-put_mid from room base into (from + length into) refl (omega (arith, long)) ∙ ap (λ l. l ++ into) begins

  pub range-read : HoldsFrom known (512 * first) into → IfSome known (λ image. later ≡ bytes ++ flat_map (block_at image) (range_with_len first count))
  range-read held = by known held
    where
      by : (o : Option (List ℕ)) → HoldsFrom o (512 * first) into → IfSome o (λ image. later ≡ bytes ++ flat_map (block_at image) (range_with_len first count))
      by None own = tt
      by (Some image) own = beside
          ∙ ap (λ l. bytes ++ l) (own ∙ ap (λ m. take m (drop (512 * first) image)) fits ∙ sym (flat-range image first count))
