-- What is asked for of a file, and its faults.
use Rattle.std.proofs.Common.{◌≡◌, ◌∙◌, ℕ, List, Option, None, Some, ap, inl, inr, refl, sym, subst}
use Rattle.std.specs.Prelude.{◌*◌, ◌/◌, length}
use Rattle.std.specs.Borrow.{Bor}
use Rattle.hfs_commands.specs.OpenedFiles.{IsLaidOut, IsWholeRange, failures_of, files_of, images_of, opened_layout, range_by, stored_failures, stored_images}
use Rattle.hfs_commands.specs.Parts.{IsWholeAt}
use Rattle.hfs_commands.specs.declared.opened_file.OpenedFile.{OpenedFile}
use Rattle.hfs_commands.specs.declared.opened_file.OpenedFile.TheVariants.{Plain, Raw}
use Rattle.hfs_commands.specs.declared.opened_file.StoredFile.{StoredFile}
use Rattle.hfs_commands.specs.Unopened.{TellsPlace}
use Rattle.hfs_source.specs.Images.{FailsWhere, OfEach}
use Rattle.hfs_source.specs.Raw.{layout_of}
use Rattle.hfs_source.specs.Reading.{FailsInData, IsDataOfOne}
use Rattle.hfs_source.specs.declared.asking.Counted.{Counted}
use Rattle.hfs_source.specs.declared.asking.NumberedRange.{NumberedRange}
use Rattle.hfs_source.specs.declared.data.UserData.{UserData}
use Rattle.hfs_source.specs.declared.ranges.ByteRange.{ByteRange}
use Rattle.hfs_source.specs.declared.ranges.Layout.TheVariants as layout
use Rattle.hfs_source.proofs.DataLemmas.{length-user_data_of}
use Rattle.hfs_commands.specs.declared.fault.Fault.{Fault}
use Rattle.hfs_commands.specs.declared.fault.Fault.TheVariants.{NoVolume, SeveralVolumes}
use Rattle.hfs_commands.specs.Faults.{IsUnnamed}

pub several_unnamed : (volume : Option ℕ) (n : ℕ) → volume ≡ None → IsUnnamed volume (SeveralVolumes n)
several_unnamed volume n none = subst (λ (v : Option ℕ). IsUnnamed v (SeveralVolumes n)) (sym none) (n, refl)

pub missing_unnamed : (volume : Option ℕ) (n : ℕ) → volume ≡ Some n → IsUnnamed volume (NoVolume n)
missing_unnamed volume n some = subst (λ (v : Option ℕ). IsUnnamed v (NoVolume n)) (sym some) refl

-- ---- where there is no place, it has all bytes

-- all of a file is all of the bytes in which volumes are looked for
pub content_whole : {F : Type 0} (file : StoredFile F) (all range : ByteRange) (content : OpenedFile F) → IsWholeRange (stored_images file) all
    → OfEach (files_of content) (stored_images file) → range ≡ range_by (opened_layout content) all → IsWholeRange (images_of content) range
content_whole file all range (Plain stored) whole held is =
    subst (λ (r : ByteRange). IsWholeRange (stored_images stored) r) (sym is) (whole.0, λ image holds. whole.1 image (held image holds))
content_whole file all range (Raw user) whole held is =
    subst (λ (r : ByteRange). IsWholeRange (images_of (Raw user)) r) (sym is) (
      refl,
      λ image of.
          ap length of.2 ∙ length-user_data_of of.0 ∙ ap (λ (n : ℕ). n / 2352 * 2048) (whole.1 of.0 (held of.0 of.1)),
    )

pub whole_at : (Old New : List ℕ → Type 0) (place : Option NumberedRange) (old new : ByteRange) → IsWholeRange Old old → (place ≡ None → new ≡ old)
    → OfEach New Old → IsWholeAt New place new
whole_at Old New None old new whole same held =
    subst (λ (r : ByteRange). IsWholeRange New r) (sym (same refl)) (whole.0, λ image holds. whole.1 image (held image holds))
whole_at Old New (Some place) old new whole same held = tt

-- ---- layouts

-- a file that is narrowed is laid out as it was
pub plain_laid : {F : Type 0} (old new : StoredFile F) → OfEach (stored_images old) (λ bytes. layout.Plain ≡ layout_of bytes)
    → OfEach (stored_images new) (stored_images old) → IsLaidOut (Plain new)
plain_laid old new plain held = λ image holds. plain image (held image holds)

pub opened_laid : {F : Type 0} (opened : OpenedFile F) (old new : StoredFile F) → opened ≡ Plain old → IsLaidOut opened
    → OfEach (stored_images new) (stored_images old) → IsLaidOut (Plain new)
opened_laid opened old new is laid held = plain_laid old new (subst IsLaidOut is laid) held

-- where a read of some sectors fails, that of their user data does
pub data_later : (New Old : ℕ → ℕ → Type 0) (sectors : ℕ) → FailsWhere New Old → FailsWhere (FailsInData New sectors) (FailsInData Old sectors)
data_later New Old sectors later place count (inl past) = inl past
data_later New Old sectors later place count (inr (inl some)) = inr (inl (some.0, some.1, later (some.0 * 2352) 2352 some.2))
data_later New Old sectors later place count (inr (inr none)) = inr (inr (none.0, later 0 0 none.1))

-- ---- user data that was read through a file which is known to be of raw sectors

module _ {F : Type 0} (opened : OpenedFile F) (user back : UserData (StoredFile F)) (old new : StoredFile F) (is : opened ≡ Raw user)
    (was : old ≡ user.bytes) (now : back.bytes ≡ new) where
  pub data_held : OfEach (IsDataOfOne (stored_images new)) (IsDataOfOne (stored_images old)) → OfEach (images_of (Raw back)) (images_of opened)
  data_held held =
      subst (λ (o : OpenedFile F). OfEach (images_of (Raw back)) (images_of o)) (sym is)
      (subst (λ (f : StoredFile F). OfEach (IsDataOfOne (stored_images f)) (images_of (Raw user))) (sym now)
      (subst (λ (f : StoredFile F). OfEach (IsDataOfOne (stored_images new)) (IsDataOfOne (stored_images f))) was held))

  pub data_fails : (few many : ℕ) → few ≡ user.sectors → back.sectors ≡ many
      → FailsWhere (FailsInData (stored_failures new) many) (FailsInData (stored_failures old) few) → FailsWhere (failures_of (Raw back)) (failures_of opened)
  data_fails few many sectors same later =
      subst (λ (o : OpenedFile F). FailsWhere (failures_of (Raw back)) (failures_of o)) (sym is)
      (subst (λ (f : StoredFile F). FailsWhere (FailsInData (stored_failures f) back.sectors) (failures_of (Raw user))) (sym now)
      (subst (λ (n : ℕ). FailsWhere (FailsInData (stored_failures new) n) (failures_of (Raw user))) (sym same)
      (subst (λ (f : StoredFile F). FailsWhere (FailsInData (stored_failures new) many) (FailsInData (stored_failures f) user.sectors)) was
      (subst (λ (n : ℕ). FailsWhere (FailsInData (stored_failures new) many) (FailsInData (stored_failures old) n)) sectors later))))

  pub data_tells : (path : Bor (List ℕ)) (counted : Counted) (volume : Option ℕ) (why : Fault)
      → TellsPlace path layout.Raw counted volume (IsDataOfOne (stored_images new)) why
      → TellsPlace path layout.Raw counted volume (images_of (Raw back)) why
  data_tells path counted volume why told =
      subst (λ (f : StoredFile F). TellsPlace path layout.Raw counted volume (IsDataOfOne (stored_images f)) why) (sym now) told
