-- The tag files of a bag by parts.
use Rattle.std.specs.Prelude.{ℕ, List, [], ◌∷◌, ◌++◌, codes, Option, Some, None}
use Rattle.hfs_bag.specs.Entries.{ShelfEntry, file}
use Rattle.hfs_bag.specs.declared.facts.BagFacts.{BagFacts}
use Rattle.hfs_bag.specs.declared.tags.TagDigests.{TagDigests}
use Rattle.hfs_bag.specs.Items.{BagItem}
use Rattle.hfs_bag.specs.Bags.{digest_line}
use Rattle.hfs_bag.specs.Sources.{BagTables}
use Rattle.hfs_bag.specs.Tags.{declaration_file, info_text, manifest_file, remains_files, report_file, table_file}

abbrev pub first_tags : List BagItem → BagTables → List ShelfEntry
first_tags items tables = manifest_file items ∷ table_file tables.items ∷ remains_files tables.remains

abbrev pub second_tags : BagFacts → ℕ → ℕ → List ShelfEntry
second_tags facts bytes files = report_file facts ∷ file (codes "bag-info.txt") None (info_text facts bytes files) ∷ declaration_file ∷ []

-- the line of the table of what remains, where there is one
abbrev pub remains_line : Option (List ℕ) → List ℕ
remains_line (Some digest) = digest_line digest (codes "rescue.tsv")
remains_line None = []

-- the lines of the last tag file
abbrev pub tag_lines : TagDigests → List ℕ
tag_lines tags = digest_line tags.declaration (codes "bagit.txt")
    ++ digest_line tags.info (codes "bag-info.txt")
    ++ digest_line tags.table (codes "items.csv")
    ++ remains_line tags.remains
    ++ digest_line tags.report (codes "volume.txt")
    ++ digest_line tags.manifest (codes "manifest-sha256.txt")
