-- The types of nodes.
use Rattle.std.specs.Prelude.{ℕ, ◌==◌, if◌then◌else◌, Option, Some, None}
use Rattle.hfs_btree.specs.declared.kind.NodeKind.{NodeKind}
use Rattle.hfs_btree.specs.declared.kind.NodeKind.TheVariants.{Index, Header, Map, Leaf}

-- the type byte of a kind
abbrev pub byte_of : NodeKind → ℕ
byte_of Index = 0
byte_of Header = 1
byte_of Map = 2
byte_of Leaf = 255

-- the kind that a type byte names
unfoldable pub kind_of : ℕ → Option NodeKind
kind_of byte = if byte == 0 then Some Index else (if byte == 1 then Some Header else (if byte == 2 then Some Map else (if byte == 255 then Some Leaf else None)))
