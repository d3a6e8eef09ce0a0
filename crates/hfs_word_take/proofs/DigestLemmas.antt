-- Digests of images, piece by piece.
use Rattle.std.proofs.Common.{◌≡◌, ℕ, ◌+◌, Bool, true, List, take, Option, Some, None, sym, ap, subst, ◌∙◌}
use Rattle.std.specs.Prelude.{IfSome}
use Rattle.std.proofs.Math.Seq.{take-add}
use Rattle.hfs_source.specs.Images.{HasLength, OfEach}
use Rattle.hfs_source.specs.Seen.{EachKnown}
use Rattle.hfs_source.specs.declared.seen_blocks.SeenBlocks.{SeenBlocks}
use Rattle.hfs_word_take.specs.Bags.{IsDigestTold, digest_told}
use Rattle.hfs_word_take.specs.Digests.{AddsPiece, IsDigestOf}
use Rattle.hfs_word_take.specs.Planned.{IsPlanned}

-- a piece more of an image whose bytes may be known
added-known : (known : Option (List ℕ)) (place count next : ℕ) → next ≡ place + count → (Held Holds : List ℕ → Type 0)
    → IfSome known (λ image. Held (take place image)) → AddsPiece known place count Held Holds → IfSome known (λ image. Holds (take next image))
added-known None place count next at Held Holds held added = tt
added-known (Some image) place count next at Held Holds held added =
    subst Holds (sym (ap (λ n. take n image) at ∙ take-add place count image)) (added (take place image) held)

pub more-added : (known now : Option (List ℕ)) → now ≡ known → (place from count next : ℕ) → from ≡ place → next ≡ place + count → (Held Holds : List ℕ → Type 0)
    → IfSome known (λ image. Held (take place image)) → AddsPiece now from count Held Holds → IfSome known (λ image. Holds (take next image))
more-added known now same place from count next begins at Held Holds held added =
    added-known known place count next at Held Holds held
    (subst (λ (n : ℕ). AddsPiece known n count Held Holds) begins (subst (λ (k : Option (List ℕ)). AddsPiece k from count Held Holds) same added))

-- ---- the digest that is told

-- a digest that was made is told
pub told-some : (known : Option (List ℕ)) (len : ℕ) (made : List ℕ) → IsDigestOf known len made → IsDigestTold known len true (Some made)
told-some None len made is = tt
told-some (Some image) len made is = λ same. ap Some (is same)

-- what was made of each image is told of it
pub told_each : (Holds : List ℕ → Type 0) (len : ℕ) (made : List ℕ) → OfEach Holds (HasLength len) → EachKnown Holds (λ known. IsDigestOf known len made)
    → OfEach Holds (λ image. Some made ≡ digest_told true image)
told_each Holds len made long each = λ image h. ap Some (each image h (long image h))

-- what is made where it is asked for is what is told
pub told_as_asked : (asked made : Bool) (told : Option (List ℕ)) (image : List ℕ) → asked ≡ made → told ≡ digest_told made image → told ≡ digest_told asked image
told_as_asked asked made told image same is = is ∙ ap (λ (b : Bool). digest_told b image) (sym same)

-- what was planned comes
pub planned_made : {S : Type 0} (Holds : S → List ℕ → Type 0) (beside : Option (SeenBlocks S)) (is_digested : Bool) (told : Option (List ℕ)) (image : List ℕ)
    → beside ≡ None → IsPlanned beside is_digested told image → told ≡ digest_told is_digested image
planned_made Holds None is_digested told image none planned = planned
planned_made Holds (Some beside) is_digested told image none planned = absurd (some-none beside none)
  where
    Is : {S : Type 0} → Option (SeenBlocks S) → Type 0
    Is None = ⊥
    Is (Some b) = Unit {0}

    some-none : {S : Type 0} (b : SeenBlocks S) → Some b ≡ None → ⊥
    some-none b e = subst Is e tt
