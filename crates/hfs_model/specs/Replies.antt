-- What a call answers.
use Rattle.std.specs.Prelude.{ℕ, ℤ, pos, Bool, false, if◌then◌else◌, List, [], length, map}
use Rattle.std.specs.Ordering.{int_eq}
use Rattle.hfs_model.specs.declared.item.Kind.{Kind}
use Rattle.hfs_model.specs.declared.item.Kind.TheVariants as kind
use Rattle.hfs_model.specs.declared.reply.Info.{Info}
use Rattle.hfs_model.specs.declared.reply.ItemKind.{ItemKind}
use Rattle.hfs_model.specs.declared.reply.ItemKind.TheVariants as item_kind
use Rattle.hfs_model.specs.declared.reply.Value.{Value}
use Rattle.hfs_model.specs.declared.reply.Value.TheVariants as value
use Rattle.hfs_model.specs.declared.reply.Reply.{Reply}
use Rattle.hfs_model.specs.Volume.{Entry}
use Rattle.hfs_model.specs.Children.{is_folder_kind, valence, children}

-- a code other than 0, with no value
abbrev pub refusal : ℤ → Reply
refusal code = record { code = code; value = value.Nothing }

-- code 0, with a value
abbrev pub success : Value → Reply
success value = record { code = pos 0; value = value }

-- whether the code is 0
abbrev pub is_accepted : Reply → Bool
is_accepted r = int_eq r.code (pos 0)

-- ---- what is said about an item

abbrev pub item_kind_of : Kind → ItemKind
item_kind_of (kind.Folder kept) = item_kind.Folder
item_kind_of (kind.File file) = item_kind.File

-- a folder is never locked
abbrev pub is_locked_file : Kind → Bool
is_locked_file (kind.Folder kept) = false
is_locked_file (kind.File file) = file.locked

-- only a file's thread is reported
abbrev pub has_thread : Kind → Bool
has_thread (kind.Folder kept) = false
has_thread (kind.File file) = file.has_thread

-- a folder has no forks
abbrev pub data_of : Kind → List ℕ
data_of (kind.Folder kept) = []
data_of (kind.File file) = file.«data»

abbrev pub resource_of : Kind → List ℕ
resource_of (kind.Folder kept) = []
resource_of (kind.File file) = file.resource

-- all that is said about the item of an entry; a file has valence 0
unfoldable pub info_of : List Entry → Entry → Info
info_of es e = record {
  id = e.0;
  parent = e.1.parent;
  name = e.1.name;
  kind = item_kind_of e.1.kind;
  created = e.1.created;
  modified = e.1.modified;
  backup = e.1.backup;
  finder = e.1.finder;
  locked = is_locked_file e.1.kind;
  has_id = has_thread e.1.kind;
  valence = if is_folder_kind e.1.kind then valence es e.0 else 0;
  data_len = length (data_of e.1.kind);
  res_len = length (resource_of e.1.kind);
}

-- of a folder's children, in name order
abbrev pub infos : List Entry → ℕ → List Info
infos es dir = map (info_of es) (children es dir)
