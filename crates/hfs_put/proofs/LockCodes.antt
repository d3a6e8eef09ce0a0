-- The locks of a volume are bits of its master directory block.
use Rattle.std.proofs.Common.{◌≡◌, Bool, true, false, ◌||◌, cond, List, ℕ, Some, None, Option, refl, sym, ◌∙◌}
use Rattle.std.specs.Prelude.{ℤ}
use Rattle.hfs_fields.specs.declared.mdb.Mdb.{Mdb}
use Rattle.hfs_fields.specs.Records.{is_bit_set}
use Rattle.hfs_blocks.specs.Blocks.{block_at}
use Rattle.hfs_check.specs.Parts.{mdb_in}
use Rattle.hfs_check.specs.VolumeOf.{volume_in, volume_of}
use Rattle.hfs_model.specs.declared.codes.TheConstants.{HARDWARE_LOCKED, SOFTWARE_LOCKED}
use Rattle.hfs_model.specs.Volume.{Volume}
use Rattle.hfs_put.specs.PlacedSources.{lock_code, directory_lock_code}

abbrev by_bits : Bool → Bool → Option ℤ
by_bits hard soft = cond hard (Some HARDWARE_LOCKED) (cond soft (Some SOFTWARE_LOCKED) None)

abbrev by_locks : Bool → Bool → Option ℤ
by_locks hard soft = cond (hard || soft) (Some (cond hard HARDWARE_LOCKED SOFTWARE_LOCKED)) None

same : (hard soft : Bool) → by_bits hard soft ≡ by_locks hard soft
same true soft = refl
same false true = refl
same false false = refl

of-volume : (v : Volume) (mdb : Mdb) → v.hardware_locked ≡ is_bit_set 7 mdb.attributes.0 → v.software_locked ≡ is_bit_set 15 mdb.attributes.0 → directory_lock_code mdb ≡ lock_code v
of-volume v mdb hard soft = same (is_bit_set 7 mdb.attributes.0) (is_bit_set 15 mdb.attributes.0) ∙ (λ i. by_locks (sym hard i) (sym soft i))

hard-is : (image : List ℕ) → (volume_of image).hardware_locked ≡ is_bit_set 7 (mdb_in (block_at image)).attributes.0
unfolding volume_of volume_in
hard-is image = refl

soft-is : (image : List ℕ) → (volume_of image).software_locked ≡ is_bit_set 15 (mdb_in (block_at image)).attributes.0
unfolding volume_of volume_in
soft-is image = refl

pub lock-is : (image : List ℕ) → directory_lock_code (mdb_in (block_at image)) ≡ lock_code (volume_of image)
lock-is image = of-volume (volume_of image) (mdb_in (block_at image)) (hard-is image) (soft-is image)
