-- What is told of the item that the names of a path lead to.
use Rattle.std.specs.Prelude.{ℕ, Bool, false, ◌||◌, ◌==◌, if◌then◌else◌, List, [], ◌∷◌, length}
use Rattle.std.specs.List.{fold}
use Rattle.hfs_fields.specs.Names.{is_item_name}
use Rattle.hfs_fields.specs.Order.{same_name}
use Rattle.hfs_model.specs.declared.codes.TheConstants.{NOT_FOUND}
use Rattle.hfs_model.specs.declared.reply.Reply.{Reply}
use Rattle.hfs_model.specs.declared.reply.Value.{Value}
use Rattle.hfs_model.specs.declared.reply.Value.TheVariants.{Nothing, Id, One, Many, Bytes, Full, Room, ExtentNodes, Place}
use Rattle.hfs_model.specs.Reading.{get_cat_info, get_dir_info}
use Rattle.hfs_model.specs.Replies.{refusal}
use Rattle.hfs_model.specs.Volume.{Entry}

-- of the item of that name in the folder of that ID, by this; a name that no item may have leads nowhere: -43
abbrev pub told_child : (ℕ → List ℕ → Reply) → ℕ → List ℕ → Reply
told_child child dir name = if is_item_name name then child dir name else refusal NOT_FOUND

-- one name further, from the item that this value tells of; where it tells of none, what was told stays
abbrev pub told_from : (ℕ → List ℕ → Reply) → Reply → List ℕ → Value → Reply
told_from child told name Nothing = told
told_from child told name (Id id) = told
told_from child told name (One info) = told_child child info.id name
told_from child told name (Many infos) = told
told_from child told name (Bytes bytes) = told
told_from child told name (Full free depth) = told
told_from child told name (Room free wanted) = told
told_from child told name (ExtentNodes free depth) = told
told_from child told name (Place dir place) = told

unfoldable pub told_next : (ℕ → List ℕ → Reply) → Reply → List ℕ → Reply
told_next child told name = told_from child told name told.value

-- whether a path may begin with this name, where this tells of the root: with the root's own, or with none
abbrev pub is_root_name : List ℕ → Value → Bool
is_root_name name Nothing = false
is_root_name name (Id id) = false
is_root_name name (One root) = (length name == 0) || same_name root.name name
is_root_name name (Many infos) = false
is_root_name name (Bytes bytes) = false
is_root_name name (Full free depth) = false
is_root_name name (Room free wanted) = false
is_root_name name (ExtentNodes free depth) = false
is_root_name name (Place dir place) = false

-- where this tells of the root, and this of the items of folders: -43 where the first name isn't the root's or a name leads nowhere,
-- -120 behind a file
unfoldable pub told_at : (ℕ → List ℕ → Reply) → Reply → List (List ℕ) → Reply
told_at child root [] = refusal NOT_FOUND
told_at child root (first ∷ below) = if is_root_name first root.value then fold (told_next child) root below else refusal NOT_FOUND

-- by the items of a volume, whose root has the ID 2
abbrev pub path_told : List Entry → List (List ℕ) → Reply
path_told es names = told_at (get_cat_info es) (get_dir_info es 2) names
