-- What one read after another says of each image.
use Rattle.std.proofs.Common.{◌≡◌, ℕ, List, Option, Some, None, refl}
use Rattle.hfs_blocks.specs.Layers.{Numbered}
use Rattle.hfs_source.specs.Seen.{EachKnown, SeesMore}

pub sees_itself : {Holds : List ℕ → Type 0} {read : Numbered} → SeesMore Holds Holds read read
sees_itself = record { held = λ image h. h; stays = λ image h is. is }

pub sees_on : {first middle last : List ℕ → Type 0} {old some new : Numbered} → SeesMore first middle old some → SeesMore middle last some new
    → SeesMore first last old new
sees_on p q = record { held = λ image h. p.held image (q.held image h); stays = λ image h is. q.stays image h (p.stays image (q.held image h) is) }

-- what holds of each image is said of the one whose bytes are known
pub of_known : {Holds : List ℕ → Type 0} (Fact : Option (List ℕ) → Type 0) (known : Option (List ℕ)) → ((bytes : List ℕ) → known ≡ Some bytes → Holds bytes)
    → Fact None → EachKnown Holds Fact → Fact known
of_known Fact None holds none each = none
of_known Fact (Some bytes) holds none each = each bytes (holds bytes refl)
