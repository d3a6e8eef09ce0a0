-- What is written of numbers and bytes is read again.
use Rattle.std.specs.Prelude.{◌≡◌, ◌≤◌, ℕ, List, length, Some, true}
use Rattle.std.specs.Fmt.{decimal}
use Rattle.hex.specs.Hex.{encode_lower}
use Rattle.hfs_model.specs.declared.call.Call.{Call}
use Rattle.hfs_model.specs.declared.call.Call.TheVariants as call
use Rattle.hfs_scripts.specs.declared.lines.ScriptLine.{ScriptLine}
use Rattle.hfs_scripts.specs.Numbers.{number_of}
use Rattle.hfs_scripts.specs.Fields.{bytes_of, few_bytes_of}
use Rattle.hfs_scripts.specs.Texts.{is_writable}

abbrev pub Reads : ℕ → Type 0
Reads number = number_of (decimal number) ≡ Some number

abbrev pub ReadsBytes : ℕ → List ℕ → Type 0
ReadsBytes count bytes = bytes_of count (encode_lower bytes) ≡ Some bytes

-- where they are no more than 65,536
abbrev pub ReadsFewBytes : List ℕ → Type 0
ReadsFewBytes bytes = length bytes ≤ 65536 → few_bytes_of (encode_lower bytes) ≡ Some bytes

-- each number and each row of bytes of a call is read again
abbrev pub IsReadable : Call → Type 0
IsReadable (call.GetDirInfo dir) = Reads dir
IsReadable (call.GetCatInfo dir name) = Reads dir
IsReadable (call.GetIndexed dir index) = Reads dir × Reads index
IsReadable (call.List dir) = Reads dir
IsReadable (call.ReadFork dir name fork offset count) = Reads dir × Reads offset × Reads count
IsReadable (call.Create dir name now) = Reads dir
IsReadable (call.DirCreate dir name now) = Reads dir
IsReadable (call.Delete dir name now) = Reads dir
IsReadable (call.Rename dir name new_name now) = Reads dir
IsReadable (call.CatMove dir name new_dir now) = Reads dir × Reads new_dir
IsReadable (call.SetFInfo dir name info now) = Reads dir × ReadsBytes 16 info
IsReadable (call.SetCatInfo dir name created modified backup info now) = Reads dir × Reads created × Reads modified × Reads backup × ReadsBytes 32 info
IsReadable (call.SetFLock dir name now) = Reads dir
IsReadable (call.RstFLock dir name now) = Reads dir
IsReadable (call.CreateFileId dir name now) = Reads dir
IsReadable (call.DeleteFileId id now) = Reads id
IsReadable (call.ResolveFileId id) = Reads id
IsReadable (call.SetEof dir name fork length now) = Reads dir × Reads length
IsReadable (call.WriteFork dir name fork offset bytes now) = Reads dir × Reads offset × ReadsFewBytes bytes

-- a line that has a text, with numbers and bytes that are read again
pub record IsWritten (now : ℕ) (line : ScriptLine) : Type 0 where
  pub writable : is_writable now line ≡ true
  pub readable : IsReadable line.call
