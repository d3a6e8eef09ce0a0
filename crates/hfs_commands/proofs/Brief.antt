-- The lines of a list don't tell whether a file has a thread.
use Rattle.std.proofs.Common.{◌≡◌, ◌∙◌, ℕ, List, [], ◌∷◌, ◌++◌, map, refl, ap}
use Rattle.std.specs.Prelude.{codes}
use Rattle.std.specs.Fmt.{decimal}
use Rattle.hfs_model.specs.declared.reply.Info.{Info}
use Rattle.hfs_model.specs.declared.reply.ItemKind.{ItemKind}
use Rattle.hfs_model.specs.declared.reply.ItemKind.TheVariants.{Folder, File}
use Rattle.hfs_model.specs.declared.reply.Reply.{Reply}
use Rattle.hfs_model.specs.declared.reply.Value.{Value}
use Rattle.hfs_model.specs.declared.reply.Value.TheVariants as value
use Rattle.hfs_items.specs.Brief.{without_id, value_without_ids, without_ids}
use Rattle.hfs_commands.specs.Faults.{status_number}
use Rattle.hfs_commands.specs.Listing.{child_line, child_lines, code_line, tabbed, tabbed_sizes, listed_lines, listed_status, list_lines, list_status}
use Rattle.hfs_texts.specs.Answers.{kind_text}
use Rattle.hfs_texts.specs.Lines.{item_name_text}

sizes-brief : (info : Info) (kind : ItemKind) → tabbed_sizes kind (without_id info) ≡ tabbed_sizes kind info
unfolding tabbed_sizes
sizes-brief info Folder = refl
sizes-brief info File = refl

line-brief : (info : Info) → child_line (without_id info) ≡ child_line info
unfolding child_line
line-brief info =
    ap (λ (sizes : List ℕ). kind_text info.kind ++ tabbed (decimal info.id) ++ sizes ++ tabbed (item_name_text info.name) ++ codes "\n") (sizes-brief info info.kind)

lines-brief : (infos : List Info) → child_lines (map without_id infos) ≡ child_lines infos
unfolding child_lines
lines-brief [] = refl
lines-brief (info ∷ infos) =
    ap (λ (line : List ℕ). line ++ child_lines (map without_id infos)) (line-brief info)
    ∙ ap (λ (lines : List ℕ). child_line info ++ lines) (lines-brief infos)

listed-brief : (v : Value) (reply : Reply) → listed_lines (value_without_ids v) (without_ids reply) ≡ listed_lines v reply
unfolding code_line
listed-brief (value.Many infos) reply = lines-brief infos
listed-brief value.Nothing reply = refl
listed-brief (value.Id id) reply = refl
listed-brief (value.One info) reply = refl
listed-brief (value.Bytes bytes) reply = refl
listed-brief (value.Full free depth) reply = refl
listed-brief (value.Room free wanted) reply = refl
listed-brief (value.ExtentNodes free depth) reply = refl
listed-brief (value.Place dir name) reply = refl

pub list_lines-brief : (reply : Reply) → list_lines (without_ids reply) ≡ list_lines reply
list_lines-brief reply = listed-brief reply.value reply

-- ---- the exit status

value-status : (v : Value) → listed_status (value_without_ids v) ≡ listed_status v
value-status (value.Many infos) = refl
value-status value.Nothing = refl
value-status (value.Id id) = refl
value-status (value.One info) = refl
value-status (value.Bytes bytes) = refl
value-status (value.Full free depth) = refl
value-status (value.Room free wanted) = refl
value-status (value.ExtentNodes free depth) = refl
value-status (value.Place dir name) = refl

pub list_status-brief : (reply : Reply) → list_status (without_ids reply) ≡ list_status reply
list_status-brief reply = ap status_number (value-status reply.value)
