-- What holds of CreateFileId and DeleteFileId. Each statement is what a function of src/file_ids.rt ensures.
use Rattle.std.specs.Prelude.{Bool}
use Rattle.hfs_fields.specs.declared.file_record.FileRecord.{FileRecord}
use Rattle.hfs_fields.specs.Records.{with_bit}

-- the file's record, whose flags say whether it has a thread
abbrev pub with_thread_flag : Bool → FileRecord → FileRecord
with_thread_flag there f = record f { flags = record { 0 = with_bit 1 there f.flags.0 } }
