-- The item of a file's record of which one fork has other bytes.
use Rattle.std.proofs.Common.{◌≡◌, ℕ, Bool, List, length, refl}
use Rattle.hfs_fields.specs.declared.key.CatKey.{CatKey}
use Rattle.hfs_fields.specs.declared.extent.Extent.{Extent}
use Rattle.hfs_fields.specs.declared.file_record.FileRecord.{FileRecord}
use Rattle.hfs_fields.specs.Records.{is_bit_set}
use Rattle.hfs_fields.specs.RecordForms.{file_record_bytes}
use Rattle.hfs_model.specs.declared.item.Kind.TheVariants as kind
use Rattle.hfs_model.specs.declared.call.Fork.{Fork}
use Rattle.hfs_model.specs.declared.call.Fork.TheVariants.{DataFork, ResFork}
use Rattle.hfs_catalog.specs.Items.{file_of, file_kept}
use Rattle.hfs_model.specs.Forks.{physical_length, with_physical_length, item_with_fork}
use Rattle.hfs_call_patches.specs.Files.{file_with}

-- both forks' bytes, of which one fork's are these
abbrev pub with_content : Fork → List ℕ → List ℕ × List ℕ → List ℕ × List ℕ
with_content DataFork bytes both = (bytes, both.1)
with_content ResFork bytes both = (both.0, bytes)

-- the kept bytes of the record have the fork's physical length
kept_with_length : (size : ℕ) (fork : Fork) (len : ℕ) (first : List Extent) (now : ℕ) (f : FileRecord) → file_kept (file_with size fork len first now f) ≡ with_physical_length fork (physical_length size len) (file_kept f)
unfolding file_kept file_record_bytes with_physical_length
kept_with_length size DataFork len first now f = refl
kept_with_length size ResFork len first now f = refl

pub changed_item : (has : Bool) (forks : List ℕ × List ℕ) (key : CatKey) (f : FileRecord) (size : ℕ) (fork : Fork) (bytes : List ℕ) (first : List Extent) (now : ℕ)
    → file_of has (with_content fork bytes forks) key (file_with size fork (length bytes) first now f) ≡ item_with_fork size fork bytes now (file_of has forks key f)
unfolding file_of
changed_item has forks key f size DataFork bytes first now =
    λ j. record (item_with_fork size DataFork bytes now (file_of has forks key f)) {
      kind = kind.File (record { kept = kept_with_length size DataFork (length bytes) first now f j; locked = is_bit_set 0 f.flags.0; has_thread = has; «data» = bytes; resource = forks.1 });
    }
changed_item has forks key f size ResFork bytes first now =
    λ j. record (item_with_fork size ResFork bytes now (file_of has forks key f)) {
      kind = kind.File (record { kept = kept_with_length size ResFork (length bytes) first now f j; locked = is_bit_set 0 f.flags.0; has_thread = has; «data» = forks.0; resource = bytes });
    }
