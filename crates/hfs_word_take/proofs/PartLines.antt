-- The line of what was asked for.
use Rattle.std.proofs.Common.{◌≡◌, ◌∙◌, ℕ, ◌+◌, ◌≤◌, Bool, List, [], length, take, drop, Option, None, Some, refl, ap, sym, subst, inl, inr, arith, length-take, length-drop}
use Rattle.std.specs.Prelude.{IfSome}
use Rattle.std.proofs.lemmas.Option.{none-some}
use Rattle.hfs_check.specs.declared.mount_fault.MountFault.TheVariants.{Short}
use Rattle.hfs_check.specs.Faults.{fault_of, length_fault}
use Rattle.hfs_commands.specs.OpenedFiles.{IsLaidOut, images_of, opened_layout}
use Rattle.hfs_commands.specs.Parts.{IsAskedPart, IsRangeAt, IsWholeAt, asked_at}
use Rattle.hfs_commands.specs.declared.opened_file.OpenedFile.{OpenedFile}
use Rattle.hfs_commands.specs.declared.volume_files.FilePart.{FilePart}
use Rattle.hfs_source.specs.Asking.{IsAnswerTo, asked_in}
use Rattle.hfs_source.specs.declared.asking.NumberedRange.{NumberedRange}
use Rattle.hfs_source.specs.declared.ranges.ByteRange.{ByteRange}
use Rattle.hfs_source.specs.declared.ranges.Layout.{Layout}
use Rattle.hfs_commands.specs.SeenFiles.{AreBlocksOf, AreSeenOf, IsPartOf, PartBlocks, parts_of}
use Rattle.hfs_source.specs.declared.asking.Counted.{Counted}
use Rattle.hfs_source.specs.declared.blocks.BlocksOf.{BlocksOf}
use Rattle.hfs_source.specs.declared.range.RangeBytes.{RangeBytes}
use Rattle.hfs_source.specs.declared.window.Window.{Window}
use Rattle.hfs_source.specs.Ranges.{bytes_in}
use Rattle.hfs_source.specs.Sums.{sum_told}
use Rattle.hfs_source.specs.Images.{HasLength, IsRangeOf, OfEach}
use Rattle.hfs_word_take.specs.Opening.{AreBlocksBeside, HasLengthIfSound, HasOpenedPart, IsLineAt, IsLineOf, IsRangeIn, IsSumAt, IsSumIn, IsToldPart, TellsPart, TellsPartIn}

at-range : {F : Type 0} (file : OpenedFile F) (range : ByteRange) (place : Option NumberedRange) (line : Option (List ℕ)) (sum : Option Bool) → IsRangeAt place range
    → IsToldPart file place line sum → IsLineAt range place line
at-range file range None line sum at told = told.0
at-range file range (Some place) line sum at told = (told.2.name, sum, told.2.others, at, told.1 ∙ ap Some told.2.line_is)

pub line_of_part : {F : Type 0} (file : OpenedFile F) (volume : Option ℕ) (range : ByteRange) (place : Option NumberedRange) (line : Option (List ℕ)) (sum : Option Bool)
    → IsAnswerTo volume (asked_at place) → IsRangeAt place range → IsToldPart file place line sum → IsLineOf volume range line
line_of_part file volume range place line sum answer at told = (place, answer, at-range file range place line sum at told)

-- ---- what was asked for is asked for still when its line was told

some-so : {A : Type 0} (found : Option A) (Fact : Type 0) → Fact → IfSome found (λ _. Fact)
some-so None Fact fact = tt
some-so (Some it) Fact fact = fact

-- the layout of a file is known where a place in it is asked for
pub laid_at : {F : Type 0} (counted : Counted) (volume : Option ℕ) (part : FilePart F) → IsAskedPart counted volume part
    → IfSome part.place (λ _. IsLaidOut part.bytes.source)
laid_at counted volume part (inl alone) =
    subst (λ (place : Option NumberedRange). IfSome place (λ _. IsLaidOut part.bytes.source)) (sym alone.1.0) tt
laid_at counted volume part (inr named) = some-so part.place (IsLaidOut part.bytes.source) named.1.0

asked-still : {F : Type 0} (counted : Counted) (volume : Option ℕ) (old new : Window (OpenedFile F)) (place : Option NumberedRange)
    → IsAskedPart counted volume (record { bytes = old; place = place }) → opened_layout new.source ≡ opened_layout old.source
    → IfSome place (λ _. IsLaidOut new.source) → OfEach (images_of new.source) (images_of old.source) → (place ≡ None → new ≡ old)
    → IsAskedPart counted volume (record { bytes = new; place = place })
asked-still {F = F} counted volume old new None asked layout laid held whole =
    subst (λ (bytes : Window (OpenedFile F)). IsAskedPart counted volume (record { bytes = bytes; place = None })) (sym (whole refl)) asked
asked-still counted volume old new (Some place) (inl alone) layout laid held whole = absurd (none-some place (sym alone.1.0))
asked-still counted volume old new (Some place) (inr named) layout laid held whole =
    inr (
      named.0,
      (laid, λ bytes h. subst (λ (l : Layout). asked_at (Some place) ≡ asked_in l counted volume bytes) (sym layout) (named.1.1 bytes (held bytes h))),
    )

all-still : {F : Type 0} (old new : Window (OpenedFile F)) (place : Option NumberedRange) → IsWholeAt (images_of old.source) place old.range
    → (place ≡ None → new ≡ old) → IsWholeAt (images_of new.source) place new.range
all-still {F = F} old new None all whole =
    subst (λ (bytes : Window (OpenedFile F)). IsWholeAt (images_of bytes.source) None bytes.range) (sym (whole refl)) all
all-still old new (Some place) all whole = tt

pub told_of_part : {F : Type 0} (counted : Counted) (volume : Option ℕ) (part : FilePart F) (found : Window (OpenedFile F)) (line : Option (List ℕ)) (sum : Option Bool)
    → IsAnswerTo volume (asked_at part.place) → IsAskedPart counted volume part → IsWholeAt (images_of part.bytes.source) part.place part.bytes.range
    → IsRangeAt part.place found.range → opened_layout found.source ≡ opened_layout part.bytes.source → IfSome part.place (λ _. IsLaidOut found.source)
    → OfEach (images_of found.source) (images_of part.bytes.source) → (part.place ≡ None → found ≡ part.bytes)
    → IsToldPart found.source part.place line sum → IsSumAt (images_of found.source) part.place sum → TellsPart found counted volume line sum
told_of_part counted volume part found line sum answer asked all at layout laid held whole told is = record {
  place = part.place;
  answers = answer;
  asked = asked-still counted volume part.bytes found part.place asked layout laid held whole;
  range_is = at;
  all_is = all-still part.bytes found part.place all whole;
  line_is = told;
  sum_is = is;
}

-- blocks of what was told are what was asked for
pub seen_of_told : {F : Type 0} (part : Window (OpenedFile F)) (blocks : BlocksOf (RangeBytes (OpenedFile F))) (counted : Counted) (volume : Option ℕ)
    (line : Option (List ℕ)) (sum : Option Bool) → TellsPart part counted volume line sum → AreBlocksOf part blocks → AreSeenOf counted volume blocks
seen_of_told part blocks counted volume line sum told are = record {
  part = part;
  asked = (told.place, told.answers, told.asked, told.range_is, told.all_is);
  blocks = are;
}

-- ---- what is told of its sum

module _ (Holds Parts : List ℕ → Type 0) (range : ByteRange) (start count : ℕ) (within : OfEach Parts (IsRangeOf Holds start count))
    (at : IsPartOf Holds range start count) (len : ℕ) (lens : OfEach Parts (HasLength len)) (same : len ≡ range.len) where
  -- a part's bytes are those of the range
  part-bytes : (part : List ℕ) (is : Parts part) → part ≡ bytes_in range (within part is).0
  part-bytes part is =
      let of = within part is in
      elim at [
        | inl there ↦ of.2.bytes ∙ ap (λ (n : ℕ). take n (drop start of.0)) there.1 ∙ ap (λ (n : ℕ). take range.len (drop n of.0)) there.0
        | inr none ↦
            let empty : part ≡ [] = of.2.bytes ∙ ap (λ (n : ℕ). take n (drop start of.0)) none.1 in
            let zero-len : 0 ≡ range.len = sym (ap length empty) ∙ lens part is ∙ same in
            empty ∙ ap (λ (n : ℕ). take n (drop range.start of.0)) zero-len
      ]

  pub parts-in : OfEach Parts (IsRangeIn Holds range)
  parts-in part is = ((within part is).0, (within part is).1, part-bytes part is)

  pub in-part : (place : Option NumberedRange) (sum : Option Bool) → IsRangeAt place range → IsSumAt Holds place sum → IsSumIn Parts place sum
  in-part None sum at is = is
  in-part (Some place) sum at is = λ part there.
      let of = within part there in
      is of.0 of.1 ∙ ap (sum_told place.found.container) (ap (λ (r : ByteRange). bytes_in r of.0) (sym at) ∙ sym (part-bytes part there))

-- so what is told of the part that was opened is told of its blocks
abbrev pub told_in_part : {F : Type 0} (part : Window (OpenedFile F)) (blocks : BlocksOf (RangeBytes (OpenedFile F))) → AreBlocksOf part blocks
    → (len : ℕ) → OfEach (parts_of blocks) (HasLength len) → len ≡ part.range.len
    → (counted : Counted) (volume : Option ℕ) (line : Option (List ℕ)) (sum : Option Bool) → TellsPart part counted volume line sum
    → TellsPartIn blocks counted volume len line sum
told_in_part part blocks are len lens same counted volume line sum tells =
    let start = blocks.bytes.start in
    let count = blocks.bytes.len in
    let within : OfEach (parts_of blocks) (IsRangeOf (images_of part.source) start count) = λ image of. (of.0, are.narrows of.0 of.1, of.2) in
    record {
      part = part;
      len_is = sym same;
      told = tells;
      blocks_are = are;
      parts_are = parts-in (images_of part.source) (parts_of blocks) part.range start count within are.range len lens same;
      sum_is = in-part (images_of part.source) (parts_of blocks) part.range start count within are.range len lens same tells.place sum tells.range_is tells.sum_is;
    }

-- and what was opened a second time is that part again
pub opened_part : {F : Type 0} (part : Window (OpenedFile F)) (blocks : BlocksOf (RangeBytes (OpenedFile F))) (beside : Option (PartBlocks F))
    → AreBlocksOf part blocks → (len : ℕ) → OfEach (parts_of blocks) (HasLength len) → len ≡ part.range.len
    → (counted : Counted) (volume : Option ℕ) (line : Option (List ℕ)) (sum : Option Bool) → TellsPart part counted volume line sum
    → IfSome beside (AreBlocksBeside part) → HasOpenedPart blocks beside counted volume len line sum
opened_part part blocks beside are len lens same counted volume line sum tells again = record {
  told = told_in_part part blocks are len lens same counted volume line sum tells;
  again = again;
}

-- ---- how long what was opened is

-- what has no bytes is too short
short : (image : List ℕ) → image ≡ [] → fault_of image ≡ Some Short
unfolding fault_of length_fault
short image empty = subst (λ (bytes : List ℕ). fault_of bytes ≡ Some Short) (sym empty) refl

-- the part of a file has the bytes of the range, or has none and is refused
pub length_if_sound : (Holds : List ℕ → Type 0) (range : ByteRange) (start count : ℕ) → IsPartOf Holds range start count
    → OfEach (IsRangeOf Holds start count) (HasLengthIfSound range.len)
length_if_sound Holds range start count at = λ part is sound.
    let of = is.2 in
    elim at [
      | inl there ↦
          let lies : start + count ≤ length is.0 = of.inside in
          let cut : length part ≡ length (take count (drop start is.0)) = ap length of.bytes in
          let len : count ≡ range.len = there.1 in
          omega (arith, lies, cut, len, length-take count (drop start is.0), length-drop start is.0)
      | inr none ↦
          let empty : part ≡ [] = of.bytes ∙ ap (λ (n : ℕ). take n (drop start is.0)) none.1 in
          absurd (none-some Short (sym sound ∙ short part empty))
    ]
