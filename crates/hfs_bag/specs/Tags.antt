-- The tag files of a bag, and the whole of it.
use Rattle.std.specs.Prelude.{ℕ, List, [], ◌∷◌, ◌++◌, codes, Option, Some, None}
use Rattle.std.specs.Borrow.{Bor}
use Rattle.std.specs.Fmt.{decimal}
use Rattle.hex.specs.Hex.{encode_lower}
use Rattle.hfs_texts.specs.Lines.{line}
use Rattle.hfs_bag.specs.Entries.{ShelfEntry, file}
use Rattle.hfs_bag.specs.declared.facts.BagFacts.{BagFacts}
use Rattle.hfs_bag.specs.Items.{BagItem}
use Rattle.hfs_bag.specs.Bags.{bytes_in, files_in, manifest, payload}
use Rattle.hfs_bag.specs.Sources.{BagTables}

-- how many bytes the files have, a point, and how many files there are
unfoldable pub oxum_text : ℕ → ℕ → List ℕ
oxum_text bytes files = decimal bytes ++ codes "." ++ decimal files

-- the line of a volume that lies inside the image's file
abbrev pub volume_line : Option (Bor (List ℕ)) → List ℕ
volume_line (Some told) = line (codes "Source-Volume:") told.now
volume_line None = []

-- the line of the block of the volume's directory
abbrev pub directory_line : Option (Bor (List ℕ)) → List ℕ
directory_line (Some told) = line (codes "Source-Directory:") told.now
directory_line None = []

-- the bytes and the digest that are told are those of the range of a volume that lies inside the image's file, or else of the file
abbrev pub bytes_key : Option (Bor (List ℕ)) → List ℕ
bytes_key (Some told) = codes "Source-Volume-Bytes:"
bytes_key None = codes "Source-Bytes:"

abbrev pub digest_key : Option (Bor (List ℕ)) → List ℕ
digest_key (Some told) = codes "Source-Volume-SHA256:"
digest_key None = codes "Source-SHA256:"

-- the line of the digest
abbrev pub source_digest_line : Option (Bor (List ℕ)) → Option (List ℕ) → List ℕ
source_digest_line volume (Some digest) = line (digest_key volume) (encode_lower digest)
source_digest_line volume None = []

unfoldable pub info_text : BagFacts → ℕ → ℕ → List ℕ
info_text facts bytes files = line (codes "External-Identifier:") facts.identifier.now
    ++ line (codes "Bag-Software-Agent:") facts.program.now
    ++ line (codes "Source-Image:") facts.image.now
    ++ volume_line facts.volume
    ++ directory_line facts.directory
    ++ line (bytes_key facts.volume) (decimal facts.bytes)
    ++ source_digest_line facts.volume facts.digest
    ++ line (codes "Payload-Oxum:") (oxum_text bytes files)

abbrev pub declaration_text : List ℕ
declaration_text = codes "BagIt-Version: 1.0\nTag-File-Character-Encoding: UTF-8\n"

-- ---- the tag files of these items, whose tables are these texts

abbrev pub manifest_file : List BagItem → ShelfEntry
manifest_file items = file (codes "manifest-sha256.txt") None (manifest (payload items))

abbrev pub table_file : List ℕ → ShelfEntry
table_file table = file (codes "items.csv") None table

-- the table of what remains, where there is one
abbrev pub remains_files : Option (List ℕ) → List ShelfEntry
remains_files (Some text) = file (codes "rescue.tsv") None text ∷ []
remains_files None = []

abbrev pub report_file : BagFacts → ShelfEntry
report_file facts = file (codes "volume.txt") None facts.report.now

abbrev pub info_file : List BagItem → BagFacts → ShelfEntry
info_file items facts = file (codes "bag-info.txt") None (info_text facts (bytes_in (payload items)) (files_in (payload items)))

abbrev pub declaration_file : ShelfEntry
declaration_file = file (codes "bagit.txt") None declaration_text

-- the digests of the other tag files, in an order of their own
abbrev pub tag_manifest_file : List BagItem → BagTables → BagFacts → ShelfEntry
tag_manifest_file items tables facts = file (codes "tagmanifest-sha256.txt") None
    (manifest (declaration_file ∷ info_file items facts ∷ table_file tables.items ∷ (remains_files tables.remains ++ (report_file facts ∷ manifest_file items ∷ []))))

abbrev pub tag_files : List BagItem → BagTables → BagFacts → List ShelfEntry
tag_files items tables facts =
    manifest_file items ∷ table_file tables.items ∷ (remains_files tables.remains
    ++ (report_file facts ∷ info_file items facts ∷ declaration_file ∷ tag_manifest_file items tables facts ∷ []))

-- ---- the bag

abbrev pub bag_of : List BagItem → BagTables → BagFacts → List ShelfEntry
bag_of items tables facts = payload items ++ tag_files items tables facts
