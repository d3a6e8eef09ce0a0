-- What is written of a file with both forks: a MacBinary II file.
use Rattle.std.specs.Prelude.{◌≡◌, ℕ, ℤ, pos, List, [], take, Result, Ok, Err}
use Rattle.hfs_encodings.specs.MacBinary.{macbinary_bytes}
use Rattle.hfs_encodings.specs.declared.macbinary.MacBinaryHead.{MacBinaryHead}
use Rattle.hfs_model.specs.declared.codes.TheConstants.{NOT_FOUND}
use Rattle.hfs_model.specs.declared.reply.Info.{Info}
use Rattle.hfs_model.specs.declared.reply.ItemKind.{ItemKind}
use Rattle.hfs_model.specs.declared.reply.ItemKind.TheVariants.{Folder, File}
use Rattle.hfs_model.specs.declared.reply.Reply.{Reply}
use Rattle.hfs_model.specs.declared.reply.Value.{Value}
use Rattle.hfs_model.specs.declared.reply.Value.TheVariants.{Nothing, Id, One, Many, Bytes, Full, Room, ExtentNodes, Place}

-- the header of a file that is told of so
abbrev pub macbinary_head : Info → MacBinaryHead
macbinary_head info = record {
  name = info.name;
  finder_info = take 16 info.finder;
  locked = info.locked;
  data_length = info.data_len;
  resource_length = info.res_len;
  created = info.created;
  modified = info.modified;
}

-- a file, and -43 of a folder
abbrev pub file_of_kind : ItemKind → Info → Result Info ℤ
file_of_kind Folder info = Err NOT_FOUND
file_of_kind File info = Ok info

abbrev pub file_of_value : Value → ℤ → Result Info ℤ
file_of_value (One info) code = file_of_kind info.kind info
file_of_value Nothing code = Err code
file_of_value (Id id) code = Err code
file_of_value (Many items) code = Err code
file_of_value (Bytes bytes) code = Err code
file_of_value (Full free depth) code = Err code
file_of_value (Room free wanted) code = Err code
file_of_value (ExtentNodes free depth) code = Err code
file_of_value (Place dir name) code = Err code

-- the file that a reply to GetCatInfo tells of, or the code that refuses it
abbrev pub file_of_reply : Reply → Result Info ℤ
file_of_reply reply = file_of_value reply.value reply.code

-- the MacBinary file of a file with these forks; none where the file is refused
abbrev pub macbinary_of : Result Info ℤ → List ℕ → List ℕ → List ℕ
macbinary_of (Ok info) data_fork resource_fork = macbinary_bytes (macbinary_head info) data_fork resource_fork
macbinary_of (Err code) data_fork resource_fork = []

-- 0 of a file, else the code that refuses it
abbrev pub IsCodeOf : Result Info ℤ → ℤ → Type 0
IsCodeOf (Ok info) code = code ≡ pos 0
IsCodeOf (Err found) code = code ≡ found
