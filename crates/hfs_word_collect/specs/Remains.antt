-- The rows of what remains of a refused volume.
use Rattle.std.specs.Prelude.{ℕ, ◌+◌, Bool, true, List, [], ◌∷◌, ◌++◌, Option, Some, None, slice_index_or}
use Rattle.hfs_fields.specs.declared.mdb.Mdb.{Mdb}
use Rattle.hfs_model.specs.declared.reply.Info.{Info}
use Rattle.hfs_space.specs.declared.fork_kind.ForkKind.{ForkKind}
use Rattle.hfs_space.specs.declared.fork_kind.ForkKind.TheVariants.{Data, Resource}
use Rattle.hfs_remains.specs.declared.catalog.FoundRecord.{FoundRecord}
use Rattle.hfs_remains_forks.specs.declared.shares.FileShares.{FileShares}
use Rattle.hfs_remains_forks.specs.Verdicts.{fork_share}
use Rattle.hfs_remains_places.specs.declared.verdict.Verdict.{Verdict}
use Rattle.hfs_remains_places.specs.declared.verdict.Verdict.TheVariants.{Left, Taken}
use Rattle.hfs_remains_places.specs.Verdicts.{is_whole, verdict_text}
use Rattle.hfs_table.specs.declared.column.Column.TheVariants as column
use Rattle.hfs_rescue_items.specs.Found.{names_at, path_at, told}
use Rattle.hfs_remains_forks.specs.Finds.{found_directory, found_items}
use Rattle.hfs_remains_forks.specs.Images.{FoundImage, found_image, said_of, taken_bytes}
use Rattle.hfs_database.specs.declared.value.RowValue.{RowValue}
use Rattle.hfs_database.specs.declared.value.RowValue.TheVariants.{Empty, Number, Text}
use Rattle.hfs_database.specs.declared.value.Table.TheVariants.{Item}
use Rattle.hfs_database.specs.Taken.{TakenRow, row_of}
use Rattle.hfs_word_collect.specs.declared.remains.ForkTold.{ForkTold}
use Rattle.hfs_word_collect.specs.Values.{digest_value, where_taken}
use Rattle.hfs_word_collect.specs.Items.{date_values, told_in, told_of}

-- ---- a fork

-- the digest of these bytes, where a fork of which this is said is taken
abbrev pub said_digest : Bool → Verdict → List ℕ → RowValue
said_digest taken Left bytes = Empty
said_digest taken (Taken finding) bytes = where_taken taken (digest_value bytes)

-- what a row tells of a fork of which this is said and these bytes are taken
abbrev pub told_by : Bool → Verdict → List ℕ → ForkTold
told_by taken said bytes = record {
  digest = said_digest taken said bytes;
  verdict = Text (verdict_text said);
  is_whole = is_whole said;
}

-- nothing, of a folder
abbrev pub no_fork : ForkTold
no_fork = record { digest = Empty; verdict = Empty; is_whole = true }

-- of a fork of an item
abbrev pub told_fork : Bool → FoundImage → ForkKind → Option FileShares → ForkTold
told_fork taken f kind None = no_fork
told_fork taken f kind (Some file) = told_by taken (said_of f file (fork_share kind file)) (taken_bytes f (fork_share kind file))

-- ---- an item

-- number, the Mac path by these names, none where there are no names, the path below the payload, kind, ID, parent
unfoldable pub remains_place : ℕ → List (List ℕ) → List ℕ → Info → List RowValue
remains_place number names path info =
    Number number ∷ [] ++ told_in column.Path names info ++ Text path ∷ [] ++ told_of column.Kind info ++ told_of column.Id info ++ told_of column.Parent info

-- type, creator, flags, locked, no file ID
unfoldable pub remains_marks : Info → List RowValue
remains_marks info = told_of column.Type info ++ told_of column.Creator info ++ told_of column.Flags info ++ told_of column.Locked info ++ Empty ∷ []

-- no items, bytes of both forks, Finder's bytes
unfoldable pub remains_sizes : Info → List RowValue
remains_sizes info = Empty ∷ [] ++ told_of column.DataBytes info ++ told_of column.ResourceBytes info ++ told_of column.Finder info

-- both digests, and both verdicts
unfoldable pub remains_forks : ForkTold → ForkTold → List RowValue
remains_forks data_fork resource_fork =
    data_fork.digest ∷ [] ++ resource_fork.digest ∷ [] ++ data_fork.verdict ∷ [] ++ resource_fork.verdict ∷ []

unfoldable pub remains_values : ℕ → List (List ℕ) → List ℕ → Info → ForkTold → ForkTold → List RowValue
remains_values number names path info data_fork resource_fork =
    remains_place number names path info ++ remains_marks info ++ date_values info ++ remains_sizes info ++ remains_forks data_fork resource_fork

-- ---- all items

-- the values of item i, of which its record tells this
abbrev pub told_values : Bool → FoundImage → ℕ → Info → List RowValue
told_values taken f i info =
    remains_values i (names_at f.things f.mdb i) (path_at f.things i) info (told_fork taken f Data (slice_index_or f.shares i None))
    (told_fork taken f Resource (slice_index_or f.shares i None))

-- its row
abbrev pub remains_row : Bool → FoundImage → ℕ → Option Info → List TakenRow
remains_row taken f i None = []
remains_row taken f i (Some info) = row_of Item (told_values taken f i info) ∷ []

-- their rows, with numbers from this one on
abbrev pub remains_rows_from : Bool → FoundImage → ℕ → List FoundRecord → List TakenRow
remains_rows_from taken f i [] = []
remains_rows_from taken f i (item ∷ rest) = remains_row taken f i (told item) ++ remains_rows_from taken f (i + 1) rest

-- the rows of what is found by this directory, if there is one
abbrev pub remains_rows_by : Bool → List ℕ → Option Mdb → List TakenRow
remains_rows_by taken bytes None = []
remains_rows_by taken bytes (Some mdb) = remains_rows_from taken (found_image bytes mdb) 0 (found_items bytes mdb)

abbrev pub remains_rows : Bool → List ℕ → List TakenRow
remains_rows taken bytes = remains_rows_by taken bytes (found_directory bytes)
