-- What is found of an image, by what was kept of it.
use Rattle.std.proofs.Common.{◌≡◌, ◌∙◌, ℕ, ◌*◌, ◌≤◌, List, length, Bool, true, false, if◌then◌else◌, Option, Some, None, refl}
use Rattle.std.specs.Prelude.{nat_le}
use Rattle.std.specs.Option.{is_none}
use Rattle.std.proofs.lemmas.Bool.{leb-true}
use Rattle.hfs_blocks.specs.Blocks.{block_at, block_count}
use Rattle.hfs_remains_places.specs.declared.things.Thing.{Thing}
use Rattle.hfs_check.specs.declared.mount_fault.MountFault.TheVariants.{TooLarge, Short}
use Rattle.hfs_check.specs.Faults.{◌or_fault◌, fault_unless, length_fault}
use Rattle.hfs_remains.specs.Directory.{directory_in, directory_of}
use Rattle.hfs_remains_forks.specs.Verdicts.{Salvaged, all_used, shares_of}
use Rattle.hfs_remains_forks.specs.declared.finds.Finds.{Finds}
use Rattle.hfs_remains_forks.specs.Finds.{AreFinds, found_items, found_overflow}
use Rattle.hfs_remains_forks.specs.Images.{IsSalvageOf, found_image, kept_image, owned}

-- what is kept of an image is what is found of it
pub kept_found : (image : List ℕ) (finds : Finds) (salvage : Salvaged) → AreFinds image finds → IsSalvageOf finds (4 * length image) salvage
    → kept_image image finds.places salvage ≡ found_image image finds.mdb
kept_found image finds salvage found kept = λ i. record {
  image = image;
  total = (kept.total_is ∙ found.total_is) i;
  mdb = kept.mdb_is i;
  overflow = (kept.overflow_is ∙ found.overflow_is) i;
  extents_file = (kept.extents_file_is ∙ found.extents_file_is) i;
  catalog_file = (kept.catalog_file_is ∙ found.catalog_file_is) i;
  things = found.places_are i;
  shares = (kept.shares_are ∙ shares image finds (4 * length image) found) i;
}
  where
    shares : (image : List ℕ) (finds : Finds) (limit : ℕ) → AreFinds image finds
        → shares_of finds.overflow.items finds.mdb limit finds.items.items ≡ shares_of (found_overflow image finds.mdb) finds.mdb limit (found_items image finds.mdb)
    shares image finds limit found = λ i. shares_of (found.overflow_is i) finds.mdb limit (found.items_are i)

-- the blocks that are owned
pub owned_kept : (image : List ℕ) (things : List Thing) (salvage : Salvaged) (young : Bool) → all_used salvage.trees young salvage.shares ≡ owned (kept_image image things salvage) young
unfolding all_used
owned_kept image things salvage young = refl

-- ---- how long an image is

few-by : (n : ℕ) (few enough : Bool) (d : Option ℕ) (k : ℕ) → nat_le n 2147483648 ≡ few → (if is_none (fault_unless TooLarge few or_fault fault_unless Short enough) then d else None) ≡ Some k → n ≤ 2147483648
few-by n true enough d k e some = leb-true n 2147483648 e
few-by n false enough d k e some = cc

-- an image with a directory has as many bytes as a volume may have
pub few_bytes : (image : List ℕ) (n : ℕ) → directory_of image ≡ Some n → length image ≤ 2147483648
unfolding directory_of length_fault
few_bytes image n some = few-by (length image) (nat_le (length image) 2147483648) (nat_le 1536 (length image)) (directory_in (block_count image) (block_at image)) n refl some
