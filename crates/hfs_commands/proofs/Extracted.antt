-- Pieces of an image that were written one behind the other.
use Rattle.std.proofs.Common.{◌≡◌, ℕ, ◌+◌, ◌*◌, ◌/◌, ◌%◌, ◌<◌, ◌≤◌, List, ◌++◌, take, drop, Option, sym, ap, subst, ◌∙◌, arith, ⊎_elim, length-take}
use Rattle.std.specs.Io.KnownBytes.{Appends}
use Rattle.std.proofs.KnownBytes.{Appends-trans}
use Rattle.std.proofs.Math.Seq.{take-add}
use Rattle.std.proofs.lemmas.Bool.{cases_lt}
use Rattle.std.proofs.lemmas.List.{take_all, take-take}
use Rattle.hfs_source.specs.Images.{OfEach}
use Rattle.hfs_texts.specs.Writing.{AppendsFront}
use Rattle.hfs_commands.specs.Extracts.{bytes_from, WritesAt, WritesFront, WritesFrontAt}

-- so many bytes of each image were written, from the first on
abbrev pub HasWritten : (List ℕ → Type 0) → ℕ → Option (List ℕ) → Option (List ℕ) → Type 0
HasWritten Holds done old now = OfEach Holds (λ image. Appends old now (take done image))

module _ (Holds Held : List ℕ → Type 0) (narrows : OfEach Holds Held) (done count first : ℕ) (at : first ≡ done / 512) (even : done % 512 ≡ 0)
    (old now next : Option (List ℕ)) (before : HasWritten Held done old now) where
  place : 512 * first ≡ done
  place = omega (arith, at, even)

  pub written-next : WritesAt Holds (512 * first) count now next → HasWritten Holds (done + count) old next
  written-next own = λ image held.
      subst (Appends old next) (ap (λ m. take done image ++ bytes_from m count image) place ∙ sym (take-add done count image))
      (Appends-trans old now next (take done image) (bytes_from (512 * first) count image) (before image (narrows image held)) (own image held))

  front : (image : List ℕ) (n : ℕ) → Appends old now (take done image) → Appends now next (take n (take count (drop done image))) → AppendsFront old next image
  front image n h part = ⊎_elim
      (λ (less : n < count). (
        done + n,
        subst (Appends old next)
            (ap (λ l. take done image ++ l) (take-take n count (drop done image) (omega (arith, less))) ∙ sym (take-add done n image))
            (Appends-trans old now next (take done image) (take n (take count (drop done image))) h part),
      ))
      (λ (more : count ≤ n). (
        done + count,
        subst (Appends old next)
            (ap (λ l. take done image ++ l) (take_all n (take count (drop done image)) (omega (arith, more, length-take count (drop done image))))
            ∙ sym (take-add done count image))
            (Appends-trans old now next (take done image) (take n (take count (drop done image))) h part),
      ))
      (cases_lt n count)

  -- some of the piece
  pub written-part : (len : ℕ) → WritesFrontAt Holds (512 * first) count now next → WritesFront Holds len old next
  written-part len own = λ image held long.
      let part = own image held in
      front image part.0 (before image (narrows image held))
      (subst (λ m. Appends now next (take part.0 (bytes_from m count image))) place part.1)
