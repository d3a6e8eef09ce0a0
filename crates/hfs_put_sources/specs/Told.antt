-- What bags say about lock and dates of what lies in them, by paths on the host.
use Rattle.std.specs.Prelude.{◌≡◌, ℕ, if◌then◌else◌, List, [], ◌++◌, Option, None, codes, bytes_eq, option_map, unwrap_or}
use Rattle.csv.specs.Reading.{default_config, records, strip_bom}
use Rattle.csv.specs.Records.{field_at}
use Rattle.hfs_put_sources.specs.Rows.{item_row}
use Rattle.hfs_put_sources.specs.declared.rows.ItemRow.{ItemRow}
use Rattle.hfs_put_plan.specs.declared.facts.ToldFacts.{ToldFacts}
use Rattle.hfs_put_sources.specs.Paths.{entry_path}
use Rattle.hfs_put_sources.specs.Trees.{Tree}
use Rattle.hfs_put_sources.specs.Later.{Entries, last_told, told_at}
use Rattle.hfs_put_sources.specs.Tags.{tag_text}

abbrev pub facts_of : ItemRow → ToldFacts
facts_of row = record { locked = row.locked; dates = row.dates }

-- the path of a row's item below the payload
abbrev pub path_field : List (List ℕ) → List ℕ
path_field row = unwrap_or (field_at row 16) []

-- what a row says about a path, where this precedes its own
abbrev pub told_by_row : List ℕ → List ℕ → List (List ℕ) → Option ToldFacts
told_by_row front path row = if bytes_eq (front ++ path_field row) path then option_map facts_of (item_row row) else None

-- what a table says about it, of which each record is a row, of however many fields
abbrev pub told_by_table : List ℕ → List ℕ → List ℕ → Option ToldFacts
told_by_table front text path = last_told (told_by_row front path) (records default_config (strip_bom text))

-- what the table of a source says of it
abbrev pub told_by_source : Tree → List ℕ → List ℕ → Option ToldFacts
told_by_source host path source = told_by_table (entry_path source (codes "data/")) (tag_text host source (codes "items.csv")) path

-- what those of all sources say of it
abbrev pub told_by : Tree → List (List ℕ) → List ℕ → Option ToldFacts
told_by host sources path = last_told (told_by_source host path) sources

-- these are the facts that the sources say about any path
abbrev pub AreFactsOf : List (List ℕ) → Entries ToldFacts → Tree → Type 0
AreFactsOf sources facts host = (path : List ℕ) → told_at facts path ≡ told_by host sources path
