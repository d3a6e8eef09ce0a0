-- A range that stays the same range.
use Rattle.std.proofs.Common.{ℕ, List, subst}
use Rattle.hfs_source.specs.Images.{IsRange, OfEach}
use Rattle.hfs_source.specs.declared.range.RangeBytes.{RangeBytes}
use Rattle.hfs_image.specs.Kept.{IsSameRange, range_images}

-- its images are among those of before
pub range_narrows : {S : Type 0} (Holds : S → List ℕ → Type 0) (old new : RangeBytes S) → IsSameRange Holds old new
    → OfEach (range_images Holds new) (range_images Holds old)
range_narrows Holds old new same = λ part of. (
  of.0,
  same.narrows of.0 of.1,
  subst (λ (n : ℕ). IsRange n old.len of.0 part) same.start_is (subst (λ (n : ℕ). IsRange new.start n of.0 part) same.len_is of.2),
)
