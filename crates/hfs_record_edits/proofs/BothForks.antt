-- The extents of both forks of a file.
use Rattle.std.proofs.Common.{◌≡◌, ◌++◌, sym, ap}
use Rattle.std.specs.List.{flat_map}
use Rattle.std.proofs.lemmas.List.{append-nil}
use Rattle.hfs_fields.specs.declared.file_record.FileRecord.{FileRecord}
use Rattle.hfs_space.specs.Extents.{Overflow, fork_extents}
use Rattle.hfs_space.specs.Owners.{extents_in, forks_of_file}

pub both_forks : (overflow : Overflow) (f : FileRecord) → fork_extents overflow f.id 0 f.«data».extents ++ fork_extents overflow f.id 255 f.resource.extents ≡ flat_map (extents_in overflow) (forks_of_file f)
unfolding forks_of_file
both_forks overflow f = ap (λ l. fork_extents overflow f.id 0 f.«data».extents ++ l) (sym (append-nil (fork_extents overflow f.id 255 f.resource.extents)))
