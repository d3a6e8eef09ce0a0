-- What is written comes back.
use Rattle.std.specs.Prelude.{◌≡◌, ◌≢◌, ℕ, List, [], ◌++◌, Some, None, IsTrue, chars}
use Rattle.hfs_fields.specs.Names.{is_item_name}
use Rattle.hfs_texts.specs.NameLaws.{is_bytes}
use Rattle.hfs_encodings.specs.declared.apple_double.AppleDoubleHead.{AppleDoubleHead}
use Rattle.hfs_encodings.specs.AppleDouble.{apple_double_head_bytes}
use Rattle.hfs_encodings.specs.declared.macbinary.MacBinaryHead.{MacBinaryHead}
use Rattle.hfs_encodings.specs.MacBinary.{macbinary_bytes, resource_place}
use Rattle.hfs_encodings.specs.declared.names.GivenName.TheVariants.{Item}
use Rattle.hfs_encodings.specs.declared.incoming_apple_double.AppleDoubleFile.{AppleDoubleFile}
use Rattle.hfs_encodings.specs.declared.incoming_macbinary.MacBinaryFile.{MacBinaryFile}
use Rattle.hfs_encodings.specs.Names.{given_name, renamed}
use Rattle.hfs_encodings.specs.Spelled.{host_letters, plain_letters}
use Rattle.hfs_encodings.specs.Forks.{fork_in}
use Rattle.hfs_encodings.specs.IncomingAppleDouble.{apple_double_in}
use Rattle.hfs_encodings.specs.IncomingMacBinary.{macbinary_in}

-- the laws of host names that are read back
pub record AreHostNamesRead (host_name : List ℕ → List ℕ) : Type 0 where
  -- the letters of a name's host name are the name, whatever its bytes are
  pub back : (name : List ℕ) → IsTrue (is_bytes name) → name ≢ [] → host_letters (chars (host_name name)) ≡ name
  -- so an item name comes back
  pub item : (name : List ℕ) → IsTrue (is_item_name name) → given_name (host_letters (chars (host_name name))) ≡ Item name
  -- and what takes the place of other letters is an item name
  pub other : (letters : List ℕ) → IsTrue (is_item_name (renamed letters))

-- the laws of plain text that is read back
pub record IsPlainTextRead (plain_text : List ℕ → List ℕ) : Type 0 where
  -- the letters of the plain text of bytes are these bytes, whatever they are
  pub back : (bytes : List ℕ) → IsTrue (is_bytes bytes) → plain_letters (chars (plain_text bytes)) ≡ bytes
  -- so an item name comes back
  pub item : (name : List ℕ) → IsTrue (is_item_name name) → given_name (plain_letters (chars (plain_text name))) ≡ Item name

-- what is said about a file with this header and both forks
abbrev pub macbinary_file_of : MacBinaryHead → MacBinaryFile
macbinary_file_of head = record {
  name = given_name head.name;
  finder_info = head.finder_info;
  locked = head.locked;
  created = head.created;
  modified = head.modified;
  data_fork = record { start = 128; len = head.data_length };
  resource_fork = record { start = resource_place head; len = head.resource_length };
}

-- header and forks come back from the file that is written of them
pub record IsReadBack (head : MacBinaryHead) (data_fork resource_fork : List ℕ) : Type 0 where
  pub told : macbinary_in (macbinary_bytes head data_fork resource_fork) ≡ Some (macbinary_file_of head)
  pub data_is : fork_in (macbinary_file_of head).data_fork (macbinary_bytes head data_fork resource_fork) ≡ data_fork
  pub resource_is : fork_in (macbinary_file_of head).resource_fork (macbinary_bytes head data_fork resource_fork) ≡ resource_fork

-- what is said about a file with this head
abbrev pub apple_double_file_of : AppleDoubleHead → AppleDoubleFile
apple_double_file_of head = record { finder = head.finder; dates = None; resource_fork = record { start = 82; len = head.resource_length } }

-- Finder bytes and resource fork come back from the file that is written of them
pub record IsAppleDoubleReadBack (head : AppleDoubleHead) (fork : List ℕ) : Type 0 where
  pub told : apple_double_in (apple_double_head_bytes head ++ fork) ≡ Some (apple_double_file_of head)
  pub fork_is : fork_in (apple_double_file_of head).resource_fork (apple_double_head_bytes head ++ fork) ≡ fork
