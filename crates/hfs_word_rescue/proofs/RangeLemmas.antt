-- Parts of a file that are a range of it, or have no bytes where that doesn't lie in it.
use Rattle.std.proofs.Common.{◌≡◌, ◌≢◌, ◌∙◌, ℕ, List, [], length, length-drop, take, drop, Option, None, Some, ap, arith, inl, inr, refl, subst, sym}
use Rattle.std.proofs.lemmas.List.{length-take-le}
use Rattle.std.proofs.lemmas.Option.{none-some}
use Rattle.hfs_check.specs.Faults.{length_fault}
use Rattle.hfs_commands.specs.SeenFiles.{IsPartOf}
use Rattle.hfs_image.specs.Known.{OfKnown}
use Rattle.hfs_remains.specs.Directory.{directory_of}
use Rattle.hfs_remains_forks.specs.declared.finds.Finds.{Finds}
use Rattle.hfs_remains_forks.specs.Finds.{IsFoundIn, found_directory}
use Rattle.hfs_source.specs.declared.ranges.ByteRange.{ByteRange}
use Rattle.hfs_source.specs.Images.{HasLength, IsRangeOf, OfEach}
use Rattle.hfs_source.specs.Seen.{EachKnown}
use Rattle.hfs_check.specs.declared.mount_fault.MountFault.{MountFault}
use Rattle.hfs_word_rescue.specs.Faults.{HasNoDirectory}

-- no bytes have a directory
empty-none : found_directory [] ≡ None
unfolding directory_of length_fault
empty-none = refl

module _ (Holds Parts : List ℕ → Type 0) (range : ByteRange) (start count : ℕ) (within : OfEach Parts (IsRangeOf Holds start count))
    (at : IsPartOf Holds range start count) (len : ℕ) (lens : OfEach Parts (HasLength len)) where
  part-long : (part : List ℕ) → Parts part → length part ≡ count
  part-long part is =
      let of = within part is in
      ap length of.2.bytes ∙ length-take-le count (drop start of.0) (omega (arith, of.2.inside, length-drop start of.0))

  part-empty : count ≡ 0 → (part : List ℕ) → Parts part → part ≡ []
  part-empty none part is =
      let of = within part is in
      of.2.bytes ∙ ap (λ (n : ℕ). take n (drop start of.0)) none

  -- there is no part of which something is found, and that is not as long as the range
  pub none_outside : len ≢ range.len → (finds : Finds) → EachKnown Parts (λ known. OfKnown known len (λ image. IsFoundIn image (Some finds)))
      → (why : Option MountFault) → OfEach Parts (HasNoDirectory why)
  none_outside other finds found why part is = absurd (elim at [
    | inl there ↦ other (sym (lens part is) ∙ part-long part is ∙ there.1)
    | inr none ↦ nothing none.1
  ])
    where
      nothing : count ≡ 0 → ⊥
      nothing none =
          let own : found_directory [] ≡ Some finds.mdb =
          subst (λ (image : List ℕ). found_directory image ≡ Some finds.mdb) (part-empty none part is) (found part is (lens part is)).0 in
          none-some finds.mdb (sym empty-none ∙ own)
