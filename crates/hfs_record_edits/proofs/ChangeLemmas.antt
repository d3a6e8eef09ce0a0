-- Lemmas about the definitions of specs/Changes.antt.
use Rattle.std.specs.Prelude.{◌≡◌, ℕ, true, Some}
use Rattle.hfs_fields.specs.Records.{is_dir, dir_record_of}
use Rattle.hfs_catalog.specs.Records.{Record, Catalog, item_with}
use Rattle.hfs_record_edits.specs.Swaps.{Swaps}
use Rattle.hfs_record_edits.proofs.ChangesLaws.{IsAlike}

-- the item's record was put in place of the one that it had, and a folder has its valence as it was
pub record HasSet (i : ℕ) (r s : Record) (old new : Catalog) : Type 0 where
  pub swap : Swaps (Some r) (Some s) old new
  pub was : item_with old i ≡ Some r
  pub alike : IsAlike r s
  pub valence : is_dir r.1 ≡ true → (dir_record_of s.1).valence ≡ (dir_record_of r.1).valence
