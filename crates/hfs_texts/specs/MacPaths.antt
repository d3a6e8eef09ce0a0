-- Paths, from the names on the way to an item.
use Rattle.std.specs.Prelude.{ℕ, List, codes}
use Rattle.std.specs.List.{join_by}
use Rattle.hfs_texts.specs.MacRoman.{characters_text}
use Rattle.hfs_texts.specs.PlainTexts.{plain_text}
use Rattle.hfs_texts.specs.HostNames.{host_name}

-- the Mac path of the item to which these names lead, from the root's down: their plain texts with `:` between
unfoldable pub mac_path : List (List ℕ) → List ℕ
mac_path names = join_by plain_text (codes ":") names

-- the same with the characters themselves
unfoldable pub mac_path_characters : List (List ℕ) → List ℕ
mac_path_characters names = join_by characters_text (codes ":") names

-- the host path of the item to which these names lead, from the one below the root down: their host names with `/` between
unfoldable pub host_path : List (List ℕ) → List ℕ
host_path names = join_by host_name (codes "/") names
