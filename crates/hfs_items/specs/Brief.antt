-- What is said about items where nobody asks whether a file has a thread.
use Rattle.std.specs.Prelude.{ℕ, false, not, if◌then◌else◌, List, map}
use Rattle.hfs_model.specs.declared.codes.TheConstants.{NOT_A_FOLDER}
use Rattle.hfs_model.specs.declared.reply.Info.{Info}
use Rattle.hfs_model.specs.declared.reply.Value.{Value}
use Rattle.hfs_model.specs.declared.reply.Value.TheVariants as value
use Rattle.hfs_model.specs.declared.reply.Reply.{Reply}
use Rattle.hfs_model.specs.Replies.{refusal, success}
use Rattle.hfs_catalog.specs.Records.{Catalog}
use Rattle.hfs_items.specs.declared.reply.Detail.{Detail}
use Rattle.hfs_items.specs.declared.reply.Detail.TheVariants as detail
use Rattle.hfs_items.specs.Told.{is_folder, child_infos}

-- the same, as of an item without a thread
abbrev pub without_id : Info → Info
without_id info = record {
  id = info.id;
  parent = info.parent;
  name = info.name;
  kind = info.kind;
  created = info.created;
  modified = info.modified;
  backup = info.backup;
  finder = info.finder;
  locked = info.locked;
  has_id = false;
  valence = info.valence;
  data_len = info.data_len;
  res_len = info.res_len;
}

abbrev pub value_without_ids : Value → Value
value_without_ids (value.Many infos) = value.Many (map without_id infos)
value_without_ids value.Nothing = value.Nothing
value_without_ids (value.Id id) = value.Id id
value_without_ids (value.One info) = value.One info
value_without_ids (value.Bytes bytes) = value.Bytes bytes
value_without_ids (value.Full free depth) = value.Full free depth
value_without_ids (value.Room free wanted) = value.Room free wanted
value_without_ids (value.ExtentNodes free depth) = value.ExtentNodes free depth
value_without_ids (value.Place dir name) = value.Place dir name

-- a reply to List, with each item as of one without a thread
abbrev pub without_ids : Reply → Reply
without_ids reply = record { code = reply.code; value = value_without_ids reply.value }

-- so much of what is said about an item
abbrev pub in_detail : Detail → Info → Info
in_detail detail.Full info = info
in_detail detail.Brief info = without_id info

-- so much of what is said about a folder's children
abbrev pub listed_in : Detail → Catalog → ℕ → Reply
listed_in detail catalog dir =
    if not (is_folder catalog dir) then refusal NOT_A_FOLDER
    else success (value.Many (map (in_detail detail) (child_infos catalog dir)))

-- so much of what is said about each child of a folder
abbrev pub infos_in : Detail → Catalog → ℕ → List Info
infos_in detail catalog dir = map (in_detail detail) (child_infos catalog dir)
