-- Entries: how a thing is called in its folder. The things of one folder have entries that differ, also without regard to the case of ASCII
-- letters.
use Rattle.std.specs.Prelude.{◌≡◌, ℕ, Bool, if◌then◌else◌, List, [], ◌∷◌, ◌++◌, map, length, codes}
use Rattle.std.specs.Char.{to_ascii_lowercase}
use Rattle.std.specs.Fmt.{decimal}
use Rattle.std.specs.List.{list_any}
use Rattle.std.specs.Option.{unwrap_or}
use Rattle.std.specs.Str.{bytes_eq}
use Rattle.std.proofs.Common.{Vec, Global}
use Rattle.hfs_texts.specs.HostNames.{host_name}
use Rattle.hfs_remains_places.specs.Rows.{has_row}
use Rattle.hfs_remains_places.specs.declared.things.Thing.{Thing}

-- the number of a thing's parent and its host name, in lower case
unfoldable pub entry_row : Thing → List ℕ
entry_row thing = map to_ascii_lowercase (decimal thing.parent ++ (codes "/" ++ host_name thing.name))

-- some thing has this row
abbrev pub has_entry_row : List Thing → List ℕ → Bool
has_entry_row things row = list_any (λ thing. bytes_eq (entry_row thing) row) things

-- what distinguishes a thing from one that is called the same: the number of an item, or that of a named folder
unfoldable pub suffix : ℕ → Thing → List ℕ
suffix place thing = if thing.named then codes "=t" ++ decimal (unwrap_or thing.folder 0) else codes "=r" ++ decimal place

-- the entry of a thing after these: its host name, and where one of them has that in the same folder, except for the case of
-- ASCII letters, the suffix after it
abbrev pub entry_behind : List Thing → Thing → List ℕ
entry_behind before thing = if has_entry_row before (entry_row thing) then host_name thing.name ++ suffix (length before) thing else host_name thing.name

-- the entries of things after others
abbrev pub entries_behind : List Thing → List Thing → List (List ℕ)
entries_behind before [] = []
entries_behind before (t ∷ ts) = entry_behind before t ∷ entries_behind (before ++ t ∷ []) ts

-- the entries of things, in order
unfoldable pub entries_of : List Thing → List (List ℕ)
entries_of things = entries_behind [] things

-- the rows are those of these things
abbrev pub KnowsRows : List (Vec ℕ Global) → List Thing → Type 0
KnowsRows rows things = (other : Vec ℕ Global) → has_row rows other ≡ has_entry_row things other.items
