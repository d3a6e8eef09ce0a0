-- How an image compares with what a collection has of it.
use Rattle.std.specs.Prelude.{ℕ, ◌==◌, ◌&&◌, if◌then◌else◌, Bool, true, false, nat_eq, List, codes, String, string_bytes, Option, Some, None, is_some}
use Rattle.std.specs.Cmp.Lexicographic.{pointwise}
use Rattle.hfs_database.specs.declared.comparing.Comparison.{Comparison}
use Rattle.hfs_database.specs.declared.comparing.Comparison.TheVariants.{Missing, New, Changed, Same, SameLength}
use Rattle.hfs_database.specs.declared.comparing.KnownImage.{KnownImage}

-- a file whose length is the collection's, by the digits of its digest
abbrev pub by_digest : {Z : Type 0} → Option (String Z) → List ℕ → Comparison
by_digest (Some known) digits = if pointwise nat_eq (string_bytes known) digits then Same else Changed
by_digest None digits = SameLength

-- a file of so many bytes, by the digits of its digest
abbrev pub comparison : KnownImage → ℕ → List ℕ → Comparison
comparison known len digits = if known.bytes == len then by_digest known.digest digits else Changed

-- whether a file of so many bytes is compared by its digest
abbrev pub needs_digest : KnownImage → ℕ → Bool
needs_digest known len = known.bytes == len && is_some known.digest

-- what is printed
unfoldable pub comparison_word : Comparison → List ℕ
comparison_word Missing = codes "missing"
comparison_word New = codes "new"
comparison_word Changed = codes "changed"
comparison_word Same = codes "same"
comparison_word SameLength = codes "same length"

-- whether the image isn't as the collection has it
abbrev pub is_worse : Comparison → Bool
is_worse Missing = true
is_worse New = false
is_worse Changed = true
is_worse Same = false
is_worse SameLength = false
