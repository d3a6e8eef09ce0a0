-- What is printed: the answers to calls, and all that a volume has.
use Rattle.std.specs.Prelude.{ℕ, ◌+◌, Bool, true, false, List, [], ◌∷◌, ◌++◌, length, codes}
use Rattle.std.specs.List.{flat_map}
use Rattle.std.specs.Fmt.{decimal}
use Rattle.hex.specs.Hex.{encode_lower}
use Rattle.sha2.specs.Sha256.{sha256}
use Rattle.hfs_model.specs.declared.item.File.{File}
use Rattle.hfs_model.specs.declared.item.Kind.{Kind}
use Rattle.hfs_model.specs.declared.item.Kind.TheVariants as kind
use Rattle.hfs_model.specs.declared.reply.Reply.{Reply}
use Rattle.hfs_model.specs.Volume.{Volume, Entry}
use Rattle.hfs_model.specs.Children.{entries_of}
use Rattle.hfs_texts.specs.Answers.{reply_text}
use Rattle.hfs_texts.specs.Lines.{item_name_text}

-- the answers to calls of worker 1, the first of which has this number
abbrev pub answers_text : ℕ → List Reply → List ℕ
answers_text number [] = []
answers_text number (reply ∷ replies) = reply_text (codes "1") number reply ++ answers_text (number + 1) replies

-- a field of a line, and the tab after it
unfoldable pub field : List ℕ → List ℕ
field shown = shown ++ codes "\t"

unfoldable pub flag_field : Bool → List ℕ
flag_field true = codes "yes\t"
flag_field false = codes "no\t"

-- the length of a fork, and its digest
unfoldable pub fork_fields : List ℕ → List ℕ
fork_fields bytes = field (decimal (length bytes)) ++ field (encode_lower (sha256 bytes))

unfoldable pub file_fields : File → List ℕ
file_fields file = field (encode_lower file.kept) ++ flag_field file.locked ++ flag_field file.has_thread ++ fork_fields file.«data» ++ fork_fields file.resource

-- what only a folder or only a file has
unfoldable pub kind_fields : Kind → List ℕ
kind_fields (kind.Folder kept) = field (encode_lower kept) ++ codes "-\t-\t-\t-\t-\t-\t"
kind_fields (kind.File file) = file_fields file

unfoldable pub letter_field : Kind → List ℕ
letter_field (kind.Folder kept) = codes "d\t"
letter_field (kind.File file) = codes "f\t"

-- ID, parent, kind and the three dates
unfoldable pub head_fields : Entry → List ℕ
head_fields e = field (decimal e.0) ++ field (decimal e.1.parent) ++ letter_field e.1.kind ++ field (decimal e.1.created) ++ field (decimal e.1.modified) ++ field (decimal e.1.backup)

-- all that an item has
unfoldable pub item_line : Entry → List ℕ
item_line e = head_fields e ++ field (encode_lower e.1.finder) ++ kind_fields e.1.kind ++ item_name_text e.1.name ++ codes "\n"

-- a lock by its word
unfoldable pub lock_text : List ℕ → Bool → List ℕ
lock_text word true = word
lock_text word false = codes "-"

-- what calls change of a volume besides its items, and its locks
unfoldable pub own_line : Volume → List ℕ
own_line v =
    codes "volume\t" ++ field (decimal v.next_id) ++ field (decimal v.changed) ++ field (lock_text (codes "hardware") v.hardware_locked)
    ++ lock_text (codes "software") v.software_locked ++ codes "\n"

unfoldable pub item_lines : List Entry → List ℕ
item_lines es = flat_map item_line es

abbrev pub volume_text : Volume → List ℕ
volume_text v = own_line v ++ item_lines (entries_of v)

-- the answers of a run, and the volume after it
abbrev pub all_text : Volume × List Reply → List ℕ
all_text ran = answers_text 1 ran.1 ++ volume_text ran.0
