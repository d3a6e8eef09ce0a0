-- What is still to be read of a stream.
use Rattle.std.specs.Prelude.{◌≡◌, ⊤, ℕ, suc, Bool, true, false, List, [], ◌∷◌, ◌++◌, length, take, Option, Some, None}
use Rattle.hfs_bag.specs.Forks.{fork_rest}
use Rattle.hfs_blocks.specs.Blocks.{AreRunsWithin}
use Rattle.hfs_items.specs.ToldRows.{ToldRow}
use Rattle.hfs_model.specs.declared.call.Fork.{Fork}
use Rattle.hfs_model.specs.declared.call.Fork.TheVariants.{DataFork, ResFork}
use Rattle.hfs_model.specs.declared.reply.Info.{Info}
use Rattle.hfs_image.specs.declared.fork_runs.FileRuns.{FileRuns}
use Rattle.hfs_image.specs.declared.fork_runs.ForkRuns.{ForkRuns}
use Rattle.hfs_image.specs.ForkRuns.{run_bytes}
use Rattle.hfs_source.specs.Writing.{blocks_of}
use Rattle.hfs_word_take.specs.declared.reading.Reading.{Reading}
use Rattle.hfs_word_take.specs.declared.reading.Reading.TheVariants as reading
use Rattle.hfs_word_take.specs.Items.{entries_in, fork_told, rows_text, table_text}

-- the first bytes of these blocks of an image
abbrev pub first_bytes : List ℕ → ℕ → List ℕ → List ℕ
first_bytes image left numbers = take left (blocks_of image numbers)

-- of the table the rows that are to come, behind the head where it wasn't read
abbrev pub table_rest : Bool → List ToldRow → List ℕ
table_rest true rows = rows_text rows
table_rest false rows = table_text rows

abbrev pub reading_rest : List ℕ → Reading → List ℕ
reading_rest image (reading.Fork fork) = fork_rest false image fork
reading_rest image (reading.Table table) = table_rest table.is_begun table.rows.left

-- how many bytes that is
abbrev pub reading_left : Reading → ℕ
reading_left (reading.Fork fork) = fork.left
reading_left (reading.Table table) = length (table_rest table.is_begun table.rows.left)

-- the line of the first of the rows came to the text, or there is none
abbrev pub AddsRow : Bool → List ℕ → List ℕ → List ToldRow → List ToldRow → Type 0
AddsRow true old new rows left = (old ++ rows_text rows ≡ new ++ rows_text left) × (length rows ≡ suc (length left))
AddsRow false old new rows left = (new ≡ old) × (rows ≡ []) × (left ≡ [])

-- this is told of the item of the first of the rows
abbrev pub BeginsWith : Info → List ToldRow → Type 0
BeginsWith info [] = ⊥
BeginsWith info (row ∷ rows) = row.info ≡ info

-- there is an item of which this is told, and it is that of the first of the rows
abbrev pub AreBegunBy : Option Info → List ToldRow → Type 0
AreBegunBy None rows = ⊥
AreBegunBy (Some info) rows = BeginsWith info rows

-- ---- where forks lie

-- a fork of an item of an image lies there
pub record LiesThere (fork : Fork) (info : Info) (found : ForkRuns) (image : List ℕ) : Type 0 where
  pub bytes : run_bytes found image ≡ fork_told (entries_in image) fork info
  pub len : length (fork_told (entries_in image) fork info) ≡ found.length

-- a fork of an item has no bytes
abbrev pub IsEmptyFork : Fork → Info → List ℕ → Type 0
IsEmptyFork fork info image = fork_told (entries_in image) fork info ≡ []

-- both forks of an item lie there, or have no bytes
abbrev pub LieThere : Info → Option FileRuns → List ℕ → Type 0
LieThere info (Some found) image = LiesThere DataFork info found.«data» image × LiesThere ResFork info found.resource image
LieThere info None image = IsEmptyFork DataFork info image × IsEmptyFork ResFork info image

-- the blocks of both can be told
abbrev pub AreTold : Option FileRuns → Type 0
AreTold (Some found) = AreRunsWithin found.«data».runs.items 4294967296 × AreRunsWithin found.resource.runs.items 4294967296
AreTold None = ⊤
