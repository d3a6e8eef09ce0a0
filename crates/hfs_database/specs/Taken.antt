-- What a taker was given.
use Rattle.std.specs.Prelude.{◌≡◌, ◌⊎◌, List, [], ◌∷◌, ◌++◌}
use Rattle.hfs_database.specs.declared.value.Table.{Table}
use Rattle.hfs_database.specs.declared.value.RowValue.{RowValue}

-- a row: of which table it is, and what is in its columns
pub record TakenRow : Type 0 where
  pub table : Table
  pub values : List RowValue

abbrev pub row_of : Table → List RowValue → TakenRow
row_of table values = record { table = table; values = values }

-- what was given, and then this row
abbrev pub with_row : List TakenRow → Table → List RowValue → List TakenRow
with_row given table values = given ++ row_of table values ∷ []

-- what was given stays, or ends with this row
abbrev pub MayEndWith : List TakenRow → Table → List RowValue → List TakenRow → Type 0
MayEndWith given table values new = (new ≡ given) ⊎ (new ≡ with_row given table values)

-- some rows, from the first on, and no others
pub record IsBeginning (some all : List TakenRow) : Type 0 where
  pub rest : List TakenRow
  pub all_is : some ++ rest ≡ all
