-- Files whose bytes are held, which reads leave as they are.
use Rattle.std.proofs.Common.{◌≡◌, ◌∙◌, ℕ, List, Option, None, Some, ap, refl, subst, inr, arith, ⊎_elim}
use Rattle.std.specs.Prelude.{IfSome}
use Rattle.std.specs.Option.{option_map}
use Rattle.std.specs.Arc.{arc_value}
use Rattle.hfs_source.specs.Images.{FailsWhere, OfEach}
use Rattle.hfs_source.specs.Reading.{FailsInData, IsDataOfOne}
use Rattle.hfs_source.specs.Sectors.{other_count, user_data_of}
use Rattle.hfs_commands.specs.OpenedFiles.{StaysHeld, failures_of, held_content, images_of, stored_bytes, stored_failures, stored_images}
use Rattle.hfs_commands.specs.declared.opened_file.OpenedFile.{OpenedFile}
use Rattle.hfs_commands.specs.declared.opened_file.OpenedFile.TheVariants.{Plain, Raw}
use Rattle.hfs_commands.specs.declared.opened_file.StoredFile.{StoredFile}
use Rattle.hfs_commands.specs.declared.opened_file.StoredFile.TheVariants.{Seekable, Whole}

-- what holds after a read held before, and what fails after it failed before: so bytes that were held are held, since what can be sought in may fail anywhere
pub stays_held : {F : Type 0} (old new : StoredFile F) → OfEach (stored_images new) (stored_images old) → FailsWhere (stored_failures new) (stored_failures old)
    → StaysHeld (stored_bytes old) (stored_bytes new)
stays_held (Seekable file) new held later = tt
stays_held (Whole bytes) (Seekable file) held later = absurd (omega (arith, later 0 0 tt))
stays_held (Whole bytes) (Whole others) held later = ap Some (held (arc_value others).items refl)

-- how many sectors are told to have no user data, of each file that has the bytes which were read, is told of those that were held
pub others_held : {F : Type 0} (old new : StoredFile F) (others : ℕ) → OfEach (stored_images new) (stored_images old) → FailsWhere (stored_failures new) (stored_failures old)
    → OfEach (stored_images new) (λ file. others ≡ other_count file) → IfSome (stored_bytes old) (λ file. others ≡ other_count file)
others_held (Seekable file) new others held later told = tt
others_held (Whole bytes) (Seekable file) others held later told = absurd (omega (arith, later 0 0 tt))
others_held (Whole bytes) (Whole now) others held later told = subst (λ file. others ≡ other_count file) (held (arc_value now).items refl) (told (arc_value now).items refl)

-- ---- the bytes in which volumes are looked for, which may be the user data of raw sectors

-- where they are held, there is no other image, and a read of no bytes never fails
held_alone : {F : Type 0} (old : OpenedFile F) → IfSome (held_content old) (λ content. OfEach (images_of old) (λ image. image ≡ content) × (failures_of old 0 0 → ⊥))
held_alone (Plain (Seekable file)) = tt
held_alone (Plain (Whole bytes)) = (λ image is. is, λ fails. omega (arith, fails))
held_alone {F = F} (Raw user) = by user.bytes user.sectors
  where
    by : (file : StoredFile F) (sectors : ℕ) → IfSome (option_map user_data_of (stored_bytes file))
        (λ content. OfEach (IsDataOfOne (stored_images file)) (λ image. image ≡ content) × (FailsInData (stored_failures file) sectors 0 0 → ⊥))
    by (Seekable file) sectors = tt
    by (Whole bytes) sectors = (
      λ image of. of.2 ∙ ap user_data_of of.1,
      ⊎_elim (λ past. omega (arith, past)) (⊎_elim (λ sector. omega (arith, sector.1.before)) (λ nothing. omega (arith, nothing.1))),
    )

-- and where no image is another, and a read of no bytes never fails, they are held
alone_held : {F : Type 0} (new : OpenedFile F) (content : List ℕ) → OfEach (images_of new) (λ image. image ≡ content) → (failures_of new 0 0 → ⊥)
    → held_content new ≡ Some content
alone_held (Plain (Seekable file)) content one never = absurd (never tt)
alone_held (Plain (Whole bytes)) content one never = ap Some (one (arc_value bytes).items refl)
alone_held {F = F} (Raw user) content one never = by user.bytes user.sectors one never
  where
    by : (file : StoredFile F) (sectors : ℕ) → OfEach (IsDataOfOne (stored_images file)) (λ image. image ≡ content)
        → (FailsInData (stored_failures file) sectors 0 0 → ⊥) → option_map user_data_of (stored_bytes file) ≡ Some content
    by (Seekable file) sectors one never = absurd (never (inr (inr (refl, tt))))
    by (Whole bytes) sectors one never = ap Some (one (user_data_of (arc_value bytes).items) ((arc_value bytes).items, refl, refl))

-- so what was held is held after what was read
pub content_stays : {F : Type 0} (old new : OpenedFile F) → OfEach (images_of new) (images_of old) → FailsWhere (failures_of new) (failures_of old)
    → StaysHeld (held_content old) (held_content new)
content_stays old new held later = by (held_content old) (held_alone old)
  where
    by : (known : Option (List ℕ)) → IfSome known (λ content. OfEach (images_of old) (λ image. image ≡ content) × (failures_of old 0 0 → ⊥))
        → StaysHeld known (held_content new)
    by None alone = tt
    by (Some content) alone = alone_held new content (λ image holds. alone.0 image (held image holds)) (λ fails. alone.1 (later 0 0 fails))
