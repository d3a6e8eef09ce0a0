-- The steps of the check of valences.
use Rattle.std.proofs.Common.{◌≡◌, ℕ, ◌&&◌, ◌==◌, sym, ap}
use Rattle.std.specs.Prelude.{nat_le}
use Rattle.hfs_fields.specs.Records.{is_dir, item_id, dir_record_of}
use Rattle.hfs_catalog.specs.Records.{Record, Catalog, valence_of}
use Rattle.hfs_catalog.specs.Faults.{implies, is_valence_right}

pub valence_is : (counts : ℕ → ℕ) (catalog : Catalog) (r : Record) → ((id : ℕ) → counts id ≡ valence_of catalog id)
    → is_valence_right catalog r ≡ implies (is_dir r.1) (((dir_record_of r.1).valence == counts (item_id r.1)) && nat_le (dir_record_of r.1).valence 65535)
unfolding is_valence_right
valence_is counts catalog r same = ap (λ (n : ℕ). implies (is_dir r.1) (((dir_record_of r.1).valence == n) && nat_le (dir_record_of r.1).valence 65535)) (sym (same (item_id r.1)))
