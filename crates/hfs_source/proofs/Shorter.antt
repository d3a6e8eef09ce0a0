-- What the definitions make where there are enough bytes, and where there are too few.
use Rattle.std.proofs.Common.{◌≡◌, ℕ, ◌+◌, ◌<◌, ◌≤◌, true, false, cond, List, None, sym}
use Rattle.std.specs.Prelude.{nat_le}
use Rattle.std.proofs.lemmas.Bool.{le-leb, lt-leb}
use Rattle.hfs_fields.specs.Mdb.{bytes_at}
use Rattle.hfs_source.specs.declared.ranges.ByteRange.{ByteRange}
use Rattle.hfs_source.specs.Ranges.{signed_name, volume_name_in}
use Rattle.hfs_source.specs.DiskCopy.{disk_copy_in, disk_copy_of}
use Rattle.hfs_source.specs.MacBinary.{data_fork_in, data_fork_of}

few : (a b : ℕ) → b < a → nat_le a b ≡ false
few a b lt = lt-leb a b lt

enough : (a b : ℕ) → a ≤ b → nat_le a b ≡ true
enough a b le = le-leb a b le

pub volume_name_in-short : (range : ByteRange) (file : List ℕ) → range.len < 1536 → None ≡ volume_name_in range file
unfolding volume_name_in
volume_name_in-short range file short =
    λ i. cond (sym (few 1536 range.len short) i) (signed_name (bytes_at (range.start + 1024) 64 file)) None

pub volume_name_in-long : (range : ByteRange) (file : List ℕ) → 1536 ≤ range.len → signed_name (bytes_at (range.start + 1024) 64 file) ≡ volume_name_in range file
unfolding volume_name_in
volume_name_in-long range file long =
    λ i. cond (sym (enough 1536 range.len long) i) (signed_name (bytes_at (range.start + 1024) 64 file)) None

pub disk_copy_in-short : (range : ByteRange) (file : List ℕ) → range.len < 84 → None ≡ disk_copy_in range file
unfolding disk_copy_in
disk_copy_in-short range file short = λ i. cond (sym (few 84 range.len short) i) (disk_copy_of range (bytes_at range.start 84 file)) None

pub disk_copy_in-long : (range : ByteRange) (file : List ℕ) → 84 ≤ range.len → disk_copy_of range (bytes_at range.start 84 file) ≡ disk_copy_in range file
unfolding disk_copy_in
disk_copy_in-long range file long = λ i. cond (sym (enough 84 range.len long) i) (disk_copy_of range (bytes_at range.start 84 file)) None

pub data_fork_in-short : (len : ℕ) (file : List ℕ) → len < 128 → None ≡ data_fork_in len file
unfolding data_fork_in
data_fork_in-short len file short = λ i. cond (sym (few 128 len short) i) (data_fork_of len (bytes_at 0 128 file)) None

pub data_fork_in-long : (len : ℕ) (file : List ℕ) → 128 ≤ len → data_fork_of len (bytes_at 0 128 file) ≡ data_fork_in len file
unfolding data_fork_in
data_fork_in-long len file long = λ i. cond (sym (enough 128 len long) i) (data_fork_of len (bytes_at 0 128 file)) None
