-- How much a list takes of a volume.
use Rattle.std.specs.Prelude.{ℕ, ◌+◌, min, if◌then◌else◌, List, sum_by, Option, Some, None}
use Rattle.hfs_model.specs.Forks.{blocks, is_block_size}
use Rattle.hfs_model.specs.declared.reply.ItemKind.{ItemKind}
use Rattle.hfs_model.specs.declared.reply.ItemKind.TheVariants as kind
use Rattle.hfs_put_plan.specs.declared.items.PutItem.{PutItem}
use Rattle.hfs_put_plan.specs.declared.over.Placing.{Placing}
use Rattle.hfs_put_plan.specs.declared.over.Placing.TheVariants as placing
use Rattle.hfs_word_put.specs.declared.lines.PutSums.{PutSums}

-- a number of 64 bits, or the greatest
abbrev pub at_most : ℕ → ℕ
at_most n = min n 18446744073709551615

-- ---- of one item

-- allocation blocks of this size for both forks
abbrev pub item_blocks : ℕ → PutItem → ℕ
item_blocks size item = blocks size item.data_len + blocks size item.resource_len

abbrev pub item_bytes : PutItem → ℕ
item_bytes item = item.data_len + item.resource_len

abbrev pub files_by : ItemKind → ℕ
files_by kind.File = 1
files_by kind.Folder = 0

abbrev pub folders_by : ItemKind → Placing → ℕ
folders_by kind.File placing = 0
folders_by kind.Folder placing.New = 1
folders_by kind.Folder placing.Kept = 0
folders_by kind.Folder (placing.Replaced locked) = 1
folders_by kind.Folder placing.Taken = 1

-- 1 of a file, 0 of a folder
abbrev pub file_count : PutItem → ℕ
file_count item = files_by item.kind

-- 1 of a folder that is made, and 0 of one that stays
abbrev pub made_count : PutItem → ℕ
made_count item = folders_by item.kind item.placing

-- ---- of a list

abbrev pub wanted_blocks : ℕ → List PutItem → ℕ
wanted_blocks size items = at_most (sum_by (item_blocks size) items)

-- where so many bytes are a block; no number of bytes that isn't has any
abbrev pub wanted_by : Option ℕ → List PutItem → ℕ
wanted_by (Some size) items = wanted_blocks size items
wanted_by None items = 0

abbrev pub wanted_of : ℕ → List PutItem → ℕ
wanted_of bytes items = wanted_by (if is_block_size bytes then Some bytes else None) items

abbrev pub file_total : List PutItem → ℕ
file_total items = at_most (sum_by file_count items)

abbrev pub made_total : List PutItem → ℕ
made_total items = at_most (sum_by made_count items)

abbrev pub byte_total : List PutItem → ℕ
byte_total items = at_most (sum_by item_bytes items)

-- what was put, where so many allocation blocks are free then
abbrev pub put_sums : List PutItem → ℕ → PutSums
put_sums items free = record { files = file_total items; folders = made_total items; bytes = byte_total items; free = free }
