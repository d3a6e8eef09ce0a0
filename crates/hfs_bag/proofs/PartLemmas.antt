-- Parts of an image that is picked.
use Rattle.std.proofs.Common.{◌≡◌, ◌∙◌, ℕ, ◌+◌, ◌-◌, ◌*◌, ◌/◌, ◌≤◌, ◌<◌, ◌^◌, ◌⊎◌, inl, inr, List, length, take, drop, Option, Some, None, Result, Ok, Err, ap, refl, subst, sym, arith}
use Rattle.std.proofs.Math.Logic.{∥∥₁_map}
use Rattle.std.proofs.lemmas.List.{drop-drop, drop-take, length-drop, length-take, take_all, take-take}
use Rattle.std.specs.Prelude.{IfSome, OnOk}
use Rattle.hfs_source.specs.Ranges.{bytes_in, range_of}
use Rattle.hfs_source.specs.declared.ranges.Layout.{Layout}
use Rattle.hfs_source.specs.declared.ranges.Layout.TheVariants.{Plain, Raw}
use Rattle.hfs_source.specs.Reading.{IsDataOfOne}
use Rattle.hfs_source.specs.Sectors.{sector_count, user_data_of}
use Rattle.hfs_source.proofs.DataLemmas.{length-user_data_of}
use Rattle.hfs_source.specs.Images.{HasAt, HasLength, OfEach, ReachesTo}
use Rattle.hfs_bag.specs.Failing.{SomeFail, SomeFailOf}
use Rattle.hfs_bag.specs.Parts.{FailsInContent, FailsInPart, IsInside, IsPartOf, PartValue, content_of}

-- how many bytes of user data there are
pub raw_long : (file : List ℕ) (len result : ℕ) → length file ≡ len → result ≡ len / 2352 * 2048 → length (user_data_of file) ≡ result
raw_long file len result whole is = length-user_data_of file ∙ ap (λ (n : ℕ). n / 2352 * 2048) whole ∙ sym is

-- a range has as many bytes as it says, where it lies in the content
pub part_long : (start len : ℕ) (content bytes : List ℕ) → start + len ≤ length content → bytes ≡ bytes_in (range_of start len) content → HasLength len bytes
part_long start len content bytes inside is = ap length is ∙ omega (arith, length-take len (drop start content), length-drop start content, inside)

-- what is read of the content is read of the range
pub part_read : (start len place : ℕ) (content bytes into : List ℕ) → place + length into ≤ len → bytes ≡ bytes_in (range_of start len) content → HasAt (start + place) into content → HasAt place into bytes
part_read start len place content bytes into within is read =
    let room : place + (len - place) ≡ len = omega (arith, within) in
    read ∙ ap (take (length into)) (sym (drop-drop place start content))
    ∙ sym (take-take (length into) (len - place) (drop place (drop start content)) (omega (arith, within)))
    ∙ ap (take (length into)) (sym (drop-take place (len - place) (drop start content)) ∙ ap (λ (n : ℕ). drop place (take n (drop start content))) room ∙ ap (drop place) (sym is))

-- what is read of a part
pub plain_read : {S T E : Type 0} (Holds : S → List ℕ → Type 0) (image : List ℕ) (part : PartValue S) (place : ℕ) (into : List ℕ) (r : Result T E) → part.layout ≡ Plain → place + length into ≤ part.len
    → OnOk r (OfEach (Holds part.source) (HasAt (part.start + place) into)) → OnOk r (OfEach (IsPartOf Holds image part) (HasAt place into))
plain_read Holds image part place into (Err e) plain within each = tt
plain_read Holds image part place into (Ok x) plain within each = λ bytes own.
    part_read part.start part.len place (content_of part.layout image) bytes into within own.is
    (subst (λ (layout : Layout). HasAt (part.start + place) into (content_of layout image)) (sym plain) (each image own.has))

-- of one of user data
pub raw_read : {S T E : Type 0} (Holds : S → List ℕ → Type 0) (image : List ℕ) (part : PartValue S) (place : ℕ) (into : List ℕ) (r : Result T E) → part.layout ≡ Raw → place + length into ≤ part.len
    → OnOk r (OfEach (IsDataOfOne (Holds part.source)) (HasAt (part.start + place) into)) → OnOk r (OfEach (IsPartOf Holds image part) (HasAt place into))
raw_read Holds image part place into (Err e) raw within each = tt
raw_read Holds image part place into (Ok x) raw within each = λ bytes own.
    part_read part.start part.len place (content_of part.layout image) bytes into within own.is
    (subst (λ (layout : Layout). HasAt (part.start + place) into (content_of layout image)) (sym raw) (each (user_data_of image) (image, own.has, refl)))

-- the range of all bytes has all of them
all-bytes : (content : List ℕ) (len : ℕ) → length content ≡ len → bytes_in (range_of 0 len) content ≡ content
all-bytes content len whole = ap (λ (n : ℕ). take n content) (sym whole) ∙ take_all (length content) content (omega arith)

pub part_whole : {S : Type 0} (Holds : S → List ℕ → Type 0) (image content : List ℕ) (source : S) (len : ℕ) (r : Option (PartValue S)) → (Holds source image → length content ≡ len)
    → IfSome r (λ part. part.source ≡ source) → IfSome r (λ part. OfEach (IsPartOf Holds image part) (λ bytes. bytes ≡ bytes_in (range_of 0 len) content))
    → IfSome r (λ part. OfEach (IsPartOf Holds image part) (λ bytes. bytes ≡ content))
part_whole Holds image content source len None long same told = tt
part_whole Holds image content source len (Some part) long same told = λ bytes own.
    told bytes own ∙ all-bytes content len (long (subst (λ s. Holds s image) same own.has))

-- a range of no bytes lies anywhere
pub empty_range : (start n : ℕ) (content : List ℕ) → n ≡ 0 → take n (drop 0 content) ≡ take n (drop start content)
empty_range start n content none = ap (λ (k : ℕ). take k content) none ∙ sym (ap (λ (k : ℕ). take k (drop start content)) none)

whole-sectors : (file : List ℕ) → sector_count file * 2352 ≤ length file
whole-sectors file = omega arith

-- the content has no more bytes than the image
pub content_short : (layout : Layout) (image : List ℕ) → length (content_of layout image) ≤ length image
content_short Plain image = omega arith
content_short Raw image = omega (arith, length-user_data_of image, whole-sectors image)

-- ---- reads that fail

-- a read of the content that fails is one of the image's bytes
content-fails : (layout : Layout) (image : List ℕ) (Has : Type 0) (Fails : ℕ → ℕ → Type 0) (place count : ℕ) → (Has → place + count ≤ length (content_of layout image))
    → FailsInContent layout Fails place count → (from : ℕ) × (many : ℕ) × (Has → from + many ≤ length image) × Fails from many
content-fails Plain image Has Fails place count within fails = (place, count, within, fails)
content-fails Raw image Has Fails place count within it =
    (it.0 * 2352, 2352, (λ h. sector-within it.0 (sector_count image) (length image) place count (omega (arith, within h, length-user_data_of image)) (whole-sectors image) it.1.before), it.2)
  where
    sector-within : (n sectors len place count : ℕ) → place + count ≤ sectors * 2048 → sectors * 2352 ≤ len → n * 2048 < place + count → n * 2352 + 2352 ≤ len
    sector-within n sectors len place count inside whole before = omega (arith, inside, whole, before)

module _ {S : Type 0} (Holds : S → List ℕ → Type 0) (Fails : S → ℕ → ℕ → Type 0) (image : List ℕ) (old new : PartValue S) (inside : IsInside Holds image old)
    (held : OfEach (IsPartOf Holds image new) (IsPartOf Holds image old)) where
  -- the range is of the image, as it was before
  was : (h : Holds new.source image) → IsPartOf Holds image old (bytes_in (range_of new.start new.len) (content_of new.layout image))
  was h = held (bytes_in (range_of new.start new.len) (content_of new.layout image)) (record { has = h; is = refl })

  was-long : (h : Holds new.source image) → length (bytes_in (range_of new.start new.len) (content_of new.layout image)) ≡ old.len
  was-long h = part_long old.start old.len (content_of old.layout image) _ (inside.inside (was h).has) (was h).is

  one-fails : (place count : ℕ) → OfEach (IsPartOf Holds image new) (ReachesTo (place + count)) → FailsInPart Fails old place count
      → ((from : ℕ) × (many : ℕ) × (Holds new.source image → from + many ≤ length image) × Fails old.source from many) ⊎ (Holds new.source image → 2 ^ 63 ≤ length image)
  one-fails place count reaches (inl past) = inr (λ h. absurd (omega (arith, past, reaches _ (record { has = h; is = refl }), was-long h)))
  one-fails place count reaches (inr fails) =
      inl (content-fails old.layout image (Holds new.source image) (Fails old.source) (old.start + place) count
      (λ h. omega (arith, inside.inside (was h).has, reaches _ (record { has = h; is = refl }), was-long h)) fails)

  -- a read of the range that fails is one of the image's bytes
  pub part_fails : SomeFail (IsPartOf Holds image new) (FailsInPart Fails old) → SomeFailOf (Holds new.source image) (length image) (Fails old.source)
  part_fails some = ∥∥₁_map some (λ it. one-fails it.0 it.1 it.2 it.3)
