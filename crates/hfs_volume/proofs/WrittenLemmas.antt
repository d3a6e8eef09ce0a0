-- Pieces that were written one behind the other.
use Rattle.std.proofs.Common.{◌≡◌, ℕ, ◌+◌, ◌*◌, ◌/◌, ◌%◌, ◌<◌, ◌≤◌, List, ◌++◌, length, take, drop, Option, sym, ap, subst, ◌∙◌, arith, ⊎_elim, length-take}
use Rattle.std.specs.Io.KnownBytes.{Appends}
use Rattle.std.proofs.KnownBytes.{Appends-nil, Appends-trans}
use Rattle.std.proofs.Math.Seq.{take-add}
use Rattle.std.proofs.lemmas.List.{take_all, take-take}
use Rattle.std.proofs.lemmas.Bool.{cases_lt}
use Rattle.hfs_texts.specs.Writing.{AppendsFront}
use Rattle.hfs_source.specs.Images.{OfEach}
use Rattle.hfs_blocks.specs.Blocks.{block_count}
use Rattle.hfs_blocks.specs.Layers.{Numbered, changes, AreWithin}
use Rattle.hfs_volume.specs.Image.{patched}
use Rattle.hfs_volume.proofs.SavedPieces.{length-laid_over}
use Rattle.hfs_volume.specs.Patched.{OfPatched, OfPiece, IsPiece, piece_of}

-- so many bytes of each image of these were written, from the first on, with the changed blocks in place of its own
abbrev pub HasWritten : (List ℕ → Type 0) → ℕ → Numbered → ℕ → Option (List ℕ) → Option (List ℕ) → Type 0
HasWritten Holds len changed done old now = OfPatched Holds len changed (λ bytes. Appends old now (take done bytes))

pub written-first : (Holds : List ℕ → Type 0) (len : ℕ) (changed : Numbered) (a : Option (List ℕ)) → HasWritten Holds len changed 0 a a
written-first Holds len changed a = λ image held long. Appends-nil a

module _ (len : ℕ) (changed : Numbered) (done count first : ℕ) (at : first ≡ done / 512) (even : done % 512 ≡ 0) (fits : done + count ≤ len)
    (cut : done + count < len → count % 512 ≡ 0) (within : AreWithin (changes changed) (len / 512)) where
  module _ (image : List ℕ) (long : length image ≡ len) where
    inside : AreWithin (changes changed) (block_count image)
    inside = subst (λ (n : ℕ). AreWithin (changes changed) (n / 512)) (sym long) within

    is-piece : IsPiece image first count
    is-piece = record { within = omega (arith, at, even, fits, long); whole = λ lt. cut (omega (arith, at, even, lt, long)) }

    place : 512 * first ≡ done
    place = omega (arith, at, even)

    -- the piece, as a part of what is left
    more : piece_of first count (patched changed image) ≡ take count (drop done (patched changed image))
    more = ap (λ m. take count (drop m (patched changed image))) place

  module _ (Holds Then : List ℕ → Type 0) (narrows : OfEach Then Holds) (old now next : Option (List ℕ)) (before : HasWritten Holds len changed done old now) where
    pub written-next : OfPiece Then changed first count (Appends now next) → HasWritten Then len changed (done + count) old next
    written-next own = λ image held long.
        let bytes = patched changed image in
        subst (Appends old next) (ap (λ l. take done bytes ++ l) (more image long) ∙ sym (take-add done count bytes))
        (Appends-trans old now next (take done bytes) (piece_of first count bytes) (before image (narrows image held) long)
        (own image held (inside image long) (is-piece image long)))

    -- some of the piece
    pub written-part : OfPiece Then changed first count (AppendsFront now next) → OfPatched Then len changed (AppendsFront old next)
    written-part own = λ image held long.
        let part = own image held (inside image long) (is-piece image long) in
        front (patched changed image) part.0 (before image (narrows image held) long) (subst (λ l. Appends now next (take part.0 l)) (more image long) part.1)
      where
        front : (bytes : List ℕ) (n : ℕ) → Appends old now (take done bytes) → Appends now next (take n (take count (drop done bytes))) → AppendsFront old next bytes
        front bytes n h part = ⊎_elim
            (λ (less : n < count). (
              done + n,
              subst (Appends old next)
                  (ap (λ l. take done bytes ++ l) (take-take n count (drop done bytes) (omega (arith, less))) ∙ sym (take-add done n bytes))
                  (Appends-trans old now next (take done bytes) (take n (take count (drop done bytes))) h part),
            ))
            (λ (more : count ≤ n). (
              done + count,
              subst (Appends old next)
                  (ap (λ l. take done bytes ++ l) (take_all n (take count (drop done bytes)) (omega (arith, more, length-take count (drop done bytes))))
                  ∙ sym (take-add done count bytes))
                  (Appends-trans old now next (take done bytes) (take n (take count (drop done bytes))) h part),
            ))
            (cases_lt n count)

  -- what holds of the first bytes, and of the piece behind them
  module _ (Holds Then : List ℕ → Type 0) (narrows : OfEach Then Holds) where
    pub fact-next : (Before Own After : List ℕ → Type 0)
        → ((bytes : List ℕ) → length bytes ≡ len → Before (take done bytes) → Own (take count (drop done bytes)) → After (take (done + count) bytes))
        → OfPatched Holds len changed (λ bytes. Before (take done bytes)) → OfPiece Then changed first count Own
        → OfPatched Then len changed (λ bytes. After (take (done + count) bytes))
    fact-next Before Own After join before own = λ image held long.
        let bytes = patched changed image in
        join bytes (length-laid_over (changes changed) image (inside image long) ∙ long) (before image (narrows image held) long)
        (subst Own (more image long) (own image held (inside image long) (is-piece image long)))

-- when all were written
pub written-all : (Holds : List ℕ → Type 0) (len : ℕ) (changed : Numbered) (done : ℕ) (old now : Option (List ℕ)) → len ≤ done
    → AreWithin (changes changed) (len / 512) → HasWritten Holds len changed done old now → OfPatched Holds len changed (Appends old now)
written-all Holds len changed done old now all within h = λ image held long.
    let inside : AreWithin (changes changed) (block_count image) = subst (λ (n : ℕ). AreWithin (changes changed) (n / 512)) (sym long) within in
    subst (Appends old now) (take_all done (patched changed image) (omega (arith, all, long, length-laid_over (changes changed) image inside))) (h image held long)

-- what holds of the first bytes, when there are no more
pub fact-all : (Holds : List ℕ → Type 0) (len : ℕ) (changed : Numbered) (done : ℕ) (Fact : List ℕ → Type 0) → len ≤ done
    → AreWithin (changes changed) (len / 512) → OfPatched Holds len changed (λ bytes. Fact (take done bytes)) → OfPatched Holds len changed Fact
fact-all Holds len changed done Fact all within h = λ image held long.
    let inside : AreWithin (changes changed) (block_count image) = subst (λ (n : ℕ). AreWithin (changes changed) (n / 512)) (sym long) within in
    subst Fact (take_all done (patched changed image) (omega (arith, all, long, length-laid_over (changes changed) image inside))) (h image held long)
