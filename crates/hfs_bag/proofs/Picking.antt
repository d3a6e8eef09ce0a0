-- What holds of a part of an image that is picked.
use Rattle.std.proofs.Common.{◌≡◌, ℕ, List, refl, subst}
use Rattle.hfs_source.specs.Ranges.{bytes_in, range_of}
use Rattle.hfs_source.specs.Images.{OfEach}
use Rattle.hfs_bag.specs.Parts.{IsPartOf, PartValue, content_of}

-- what holds of each image of the part holds of the bytes that it is, where the source has what was read of the image
pub picked : {S : Type 0} (Holds : S → List ℕ → Type 0) (image wanted : List ℕ) (part : PartValue S) (Fact : List ℕ → Type 0) → Holds part.source image
    → OfEach (IsPartOf Holds image part) (λ bytes. bytes ≡ wanted) → OfEach (IsPartOf Holds image part) Fact → Fact wanted
picked Holds image wanted part Fact h is fact =
    let bytes : List ℕ = bytes_in (range_of part.start part.len) (content_of part.layout image) in
    let own : IsPartOf Holds image part bytes = record { has = h; is = refl } in
    subst Fact (is bytes own) (fact bytes own)
