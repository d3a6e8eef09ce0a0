-- Files with an image changed that lies in them.
use Rattle.std.proofs.Common.{◌≡◌, ◌∙◌, refl, sym, ap, subst, arith, ℕ, ◌+◌, ◌-◌, ◌≤◌, List, ◌++◌, length, take, drop, Option, Some, length-take, length-drop}
use Rattle.std.specs.Int.{w32, to_be_bytes}
use Rattle.std.specs.Io.KnownBytes.{Appends}
use Rattle.std.proofs.KnownBytes.{Appends-trans}
use Rattle.std.proofs.lemmas.List.{take_all, take-take, drop-take}
use Rattle.hfs_texts.proofs.FrontLemmas.{front_first, front_next}
use Rattle.hfs_blocks.specs.Layers.{Numbered}
use Rattle.hfs_source.specs.declared.ranges.ByteRange.{ByteRange}
use Rattle.hfs_source.specs.Ranges.{bytes_in}
use Rattle.hfs_source.specs.Sums.{sum_of}
use Rattle.hfs_fields.specs.Mdb.{bytes_at}
use Rattle.hfs_texts.specs.Writing.{AppendsFront}
use Rattle.hfs_volume.specs.InFile.{changed_head, changed_in, file_with, head_with, LiesIn, OfPatchedRange}
use Rattle.hfs_volume.specs.declared.in_file.ImagePlace.{ImagePlace}

-- what holds of the range of each file, holds of that of each file that it lies in
pub of-range : (Holds : List ℕ → Type 0) (range : ByteRange) (changed : Numbered) (Fact : List ℕ → Type 0) → OfPatchedRange Holds range changed Fact
    → (file : List ℕ) → Holds file → LiesIn range file → Fact (changed_in range changed file)
of-range Holds range changed Fact h file held lies =
    let long : length (bytes_in range file) ≡ range.len =
    omega (arith, lies, length-take range.len (drop range.start file), length-drop range.start file) in
    h (bytes_in range file) (file, held, record { inside = lies; bytes = refl }) long

-- ---- the bytes before a range, with its sum among them

module _ (range : ByteRange) (sum_at : ℕ) (image file : List ℕ) (before : sum_at + 4 ≤ range.start) where
  abbrev head : List ℕ
  head = take range.start file

  abbrev own : List ℕ
  own = to_be_bytes w32 (sum_of image)

  abbrev left : ℕ
  left = range.start - (sum_at + 4)

  front : take sum_at head ≡ bytes_at 0 sum_at file
  front = take-take sum_at range.start file (omega (arith, before))

  behind : drop (sum_at + 4) head ≡ bytes_at (sum_at + 4) left file
  behind =
      let room : sum_at + 4 + left ≡ range.start = omega (arith, before) in
      ap (λ k. drop (sum_at + 4) (take k file)) (sym room) ∙ drop-take (sum_at + 4) left file

  parts : bytes_at 0 sum_at file ++ own ++ bytes_at (sum_at + 4) left file ≡ head_with (Some sum_at) image head
  parts = λ i. sym front i ++ own ++ sym behind i

  module _ (sum : ℕ) (is : sum ≡ sum_of image) (old : Option (List ℕ)) where
    pub sum_head-first : (now : Option (List ℕ)) → AppendsFront old now (bytes_at 0 sum_at file)
        → AppendsFront old now (head_with (Some sum_at) image head)
    sum_head-first now h =
        subst (AppendsFront old now) parts
        (front_first old now (bytes_at 0 sum_at file ++ own) (bytes_at (sum_at + 4) left file) (front_first old now (bytes_at 0 sum_at file) own h))

    module _ (one : Option (List ℕ)) (first : Appends old one (bytes_at 0 sum_at file)) where
      pub sum_head-sum : (now : Option (List ℕ)) → AppendsFront one now (to_be_bytes w32 sum)
          → AppendsFront old now (head_with (Some sum_at) image head)
      sum_head-sum now h =
          subst (AppendsFront old now) parts
          (front_first old now (bytes_at 0 sum_at file ++ own) (bytes_at (sum_at + 4) left file)
          (front_next old one now (bytes_at 0 sum_at file) own first (subst (λ (s : ℕ). AppendsFront one now (to_be_bytes w32 s)) is h)))

      module _ (two : Option (List ℕ)) (second : Appends one two (to_be_bytes w32 sum)) where
        both : Appends old two (bytes_at 0 sum_at file ++ own)
        both = Appends-trans old one two (bytes_at 0 sum_at file) own first (subst (λ (s : ℕ). Appends one two (to_be_bytes w32 s)) is second)

        pub sum_head-last : (now : Option (List ℕ)) → AppendsFront two now (bytes_at (sum_at + 4) left file)
            → AppendsFront old now (head_with (Some sum_at) image head)
        sum_head-last now h =
            subst (AppendsFront old now) parts (front_next old two now (bytes_at 0 sum_at file ++ own) (bytes_at (sum_at + 4) left file) both h)

        pub sum_head-all : (now : Option (List ℕ)) → Appends two now (bytes_at (sum_at + 4) left file)
            → Appends old now (head_with (Some sum_at) image head)
        sum_head-all now h =
            subst (Appends old now) parts (Appends-trans old two now (bytes_at 0 sum_at file ++ own) (bytes_at (sum_at + 4) left file) both h)

-- ---- the file

module _ (place : ImagePlace) (changed : Numbered) (file : List ℕ) (end all : ℕ) (at : end ≡ place.range.start + place.range.len)
    (long : length file ≡ all) (within : end ≤ all) where
  abbrev before_image : List ℕ
  before_image = changed_head place changed file

  abbrev image : List ℕ
  image = changed_in place.range changed file

  abbrev rest : List ℕ
  rest = drop (place.range.start + place.range.len) file

  pub lies : LiesIn place.range file
  lies = omega (arith, at, long, within)

  behind_image : bytes_at end (all - end) file ≡ rest
  behind_image = take_all (all - end) (drop end file) (omega (arith, long, length-drop end file)) ∙ ap (λ n. drop n file) at

  module _ (old : Option (List ℕ)) where
    pub file-head : (now : Option (List ℕ)) → AppendsFront old now before_image → AppendsFront old now (file_with place changed file)
    file-head now h = front_first old now (before_image ++ image) rest (front_first old now before_image image h)

    module _ (one : Option (List ℕ)) (first : Appends old one before_image) where
      pub file-image : (now : Option (List ℕ)) → AppendsFront one now image → AppendsFront old now (file_with place changed file)
      file-image now h = front_first old now (before_image ++ image) rest (front_next old one now before_image image first h)

      module _ (two : Option (List ℕ)) (second : Appends one two image) where
        pub file-behind : (now : Option (List ℕ)) → AppendsFront two now (bytes_at end (all - end) file)
            → AppendsFront old now (file_with place changed file)
        file-behind now h =
            front_next old two now (before_image ++ image) rest (Appends-trans old one two before_image image first second)
            (subst (AppendsFront two now) behind_image h)

        pub file-all : (now : Option (List ℕ)) → Appends two now (bytes_at end (all - end) file) → Appends old now (file_with place changed file)
        file-all now h =
            Appends-trans old two now (before_image ++ image) rest (Appends-trans old one two before_image image first second)
            (subst (Appends two now) behind_image h)
