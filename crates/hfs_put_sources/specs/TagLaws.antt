-- What is written of a bag comes back.
use Rattle.std.specs.Prelude.{◌≡◌, ◌^◌, ◌<◌, ◌==◌, ℕ, Bool, false, not, List, [], ◌∷◌, ◌++◌, Some, codes, map}
use Rattle.std.specs.List.{list_all}
use Rattle.csv.specs.Machine.{next_record}
use Rattle.csv.specs.Reading.{default_config}
use Rattle.csv.specs.declared.parser.State.TheVariants as state
use Rattle.hfs_model.specs.declared.reply.Info.{Info}
use Rattle.hfs_model.specs.declared.reply.ItemKind.{ItemKind}
use Rattle.hfs_model.specs.declared.reply.ItemKind.TheVariants.{Folder, File}
use Rattle.hfs_texts.specs.PlainTexts.{plain_text}
use Rattle.hfs_table.specs.Columns.{columns}
use Rattle.hfs_table.specs.Lines.{bag_path, bag_line, field_text}
use Rattle.hfs_bag.specs.declared.facts.BagFacts.{BagFacts}
use Rattle.hfs_bag.specs.Bags.{digest_line}
use Rattle.hfs_bag.specs.Tags.{info_text}
use Rattle.hfs_put_sources.specs.declared.rows.ItemRow.{ItemRow}
use Rattle.hfs_put_sources.specs.Lines.{first_value, lines}
use Rattle.hfs_put_sources.specs.Manifests.{digest_in, path_in}
use Rattle.hfs_put_sources.specs.Moments.{date_in}
use Rattle.hfs_put_sources.specs.Rows.{item_row}

-- each date of 32 bits comes back from its moment
pub record AreMomentsRead (moment : ℕ → List ℕ) : Type 0 where
  pub back : (date : ℕ) → date < 2 ^ 32 → date_in (moment date) ≡ Some date

-- ---- the table of items

-- the fields of the item to which these names lead, from the root's down
abbrev pub row_fields : List (List ℕ) → Info → List (List ℕ)
row_fields names info = map (field_text names info) columns ++ (bag_path names ∷ [])

abbrev pub is_locked : ItemKind → Bool → Bool
is_locked Folder locked = false
is_locked File locked = locked

-- what is said of it
abbrev pub row_told : Info → ItemRow
row_told info = record {
  kind = info.kind;
  locked = is_locked info.kind info.locked;
  dates = record { created = info.created; modified = info.modified; backup = info.backup };
}

-- the line of an item comes back
pub record IsRowReadBack (names : List (List ℕ)) (info : Info) : Type 0 where
  -- a reader of CSV parts it into these fields, whatever follows it
  pub parted : (rest : List ℕ) → next_record default_config state.StartRecord [] [] (bag_line names info ++ rest) ≡ Some (row_fields names info, state.AfterCr, 10 ∷ rest)
  -- and goes on after the line's end
  pub goes_on : (rest : List ℕ) → next_record default_config state.AfterCr [] [] (10 ∷ rest) ≡ next_record default_config state.StartRecord [] [] rest
  pub told : item_row (row_fields names info) ≡ Some (row_told info)

-- ---- lines

-- bytes with no line feed
abbrev pub is_line : List ℕ → Bool
is_line bytes = list_all (λ c. not (c == 10)) bytes

-- the plain text of a name, which a bag's description says about the root, comes back from that
abbrev pub IsNameReadBack : List ℕ → BagFacts → ℕ → ℕ → Type 0
IsNameReadBack name facts bytes files = first_value (codes "External-Identifier: ") (lines (info_text facts bytes files)) ≡ Some (plain_text name)

-- digest and path of a file, whatever follows its line in the manifest
pub record IsDigestReadBack (digest path rest : List ℕ) : Type 0 where
  pub line : List ℕ
  pub parted : lines (digest_line digest path ++ rest) ≡ line ∷ lines rest
  pub digest_is : digest_in line ≡ Some digest
  pub path_is : path_in line ≡ path
