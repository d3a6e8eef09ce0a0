-- Forks that are opened to be read from their beginning on.
use Rattle.std.specs.Prelude.{ℕ, not, if◌then◌else◌, List}
use Rattle.std.specs.Option.{option_map_or}
use Rattle.hfs_fields.specs.Names.{is_item_name}
use Rattle.hfs_model.specs.declared.call.Fork.{Fork}
use Rattle.hfs_model.specs.declared.codes.TheConstants.{BAD_NAME, NOT_FOUND, NOT_A_FOLDER}
use Rattle.hfs_model.specs.declared.item.Kind.{Kind}
use Rattle.hfs_model.specs.declared.item.Kind.TheVariants as kind
use Rattle.hfs_model.specs.Children.{is_folder, child_named}
use Rattle.hfs_model.specs.Reading.{fork_of}
use Rattle.hfs_model.specs.Replies.{refusal}
use Rattle.hfs_model.specs.Volume.{Entry}
use Rattle.hfs_volume.specs.declared.open_fork.Opened.{Opened}
use Rattle.hfs_volume.specs.declared.open_fork.Opened.TheVariants as opened

-- the bytes of an item's fork; -43 of a folder
abbrev pub opened_kind : Fork → Kind → Opened
opened_kind fork (kind.Folder kept) = opened.Refused (refusal NOT_FOUND)
opened_kind fork (kind.File file) = opened.Fork (fork_of fork file)

-- the bytes of a fork of the folder's child of that name: -37, -120, -43
unfoldable pub opened_fork : List Entry → ℕ → List ℕ → Fork → Opened
opened_fork es dir name fork =
    if not (is_item_name name) then opened.Refused (refusal BAD_NAME)
    else if not (is_folder es dir) then opened.Refused (refusal NOT_A_FOLDER)
    else option_map_or (λ (e : Entry). opened_kind fork e.1.kind) (child_named es dir name) (opened.Refused (refusal NOT_FOUND))
