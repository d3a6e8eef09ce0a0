-- The tag files of a bag that is a source.
use Rattle.std.specs.Prelude.{ℕ, ◌-◌, Bool, false, ◌&&◌, ◌==◌, nat_le, if◌then◌else◌, List, [], length, slice_index, take, Option, Some, None, codes, option_map}
use Rattle.hfs_put_sources.specs.Lines.{first_value, lines}
use Rattle.hfs_put_sources.specs.declared.entry.Look.{Look}
use Rattle.hfs_put_sources.specs.Paths.{entry_path}
use Rattle.hfs_put_sources.specs.Plans.{is_file}
use Rattle.hfs_put_sources.specs.Sources.{is_bag}
use Rattle.hfs_put_sources.specs.Trees.{Tree}

-- a source leads to a bag
abbrev pub leads_to_bag : Tree → List ℕ → Option Look → Bool
leads_to_bag host source (Some look) = is_bag host source look
leads_to_bag host source None = false

-- the text of a tag file; none where the source is no bag, or where nothing there is a file of this name
abbrev pub tag_text : Tree → List ℕ → List ℕ → List ℕ
tag_text host source name =
    if leads_to_bag host source (host.target source) && is_file (host.look (entry_path source name)) then host.bytes (entry_path source name) else []

-- a line without the return that is at its end where a program ends lines by two characters
abbrev pub without_return : List ℕ → List ℕ
without_return line = if nat_le 1 (length line) && (slice_index line (length line - 1) == 13) then take (length line - 1) line else line

-- the plain text of the name of the disk that a source was taken of, where it is a bag and says it
abbrev pub name_told : Tree → List ℕ → Option (List ℕ)
name_told host source =
    option_map without_return (first_value (codes "External-Identifier: ") (lines (tag_text host source (codes "bag-info.txt"))))
