-- The tag files of a bag.
use Rattle.std.proofs.Common.{◌≡◌, ℕ, ◌+◌, Bool, true, false, List, [], ◌∷◌, ◌++◌, codes, map, Option, Some, None, option_map, unwrap_or, refl, sym, ap, ◌∙◌, subst, append_assoc, append-nil, arith}
use Rattle.sha2.specs.Sha256.{sha256}
use Rattle.hfs_bag.specs.declared.facts.BagFacts.{BagFacts}
use Rattle.hfs_bag.specs.declared.item.BagKind.{BagKind}
use Rattle.hfs_bag.specs.declared.item.BagKind.TheVariants as kind
use Rattle.hfs_bag.specs.declared.item.ItemDigests.{ItemDigests}
use Rattle.hfs_bag.specs.Entries.{ShelfEntry, file, folder}
use Rattle.hfs_bag.specs.declared.tags.TagDigests.{TagDigests}
use Rattle.hfs_bag.specs.Items.{BagItem, digests_of_kind, entries_of_kind, item_digests, item_entries}
use Rattle.hfs_bag.specs.Bags.{digest_line, double_number, doubles_told, file_number, files_in, files_told, items_entries, manifest, payload}
use Rattle.hfs_bag.specs.Sources.{BagTables, told_or_not}
use Rattle.hfs_bag.specs.Tags.{declaration_file, declaration_text, info_file, info_text, manifest_file, remains_files, report_file, table_file}
use Rattle.hfs_bag.specs.TagParts.{remains_line, tag_lines}
use Rattle.hfs_bag.proofs.ListingLemmas.{manifest-append}
use Rattle.hfs_bag.specs.Bags.{bytes_in}

-- six texts one behind another
six_lines : (a b c d e f : List ℕ) → a ++ b ++ c ++ d ++ e ++ f ≡ a ++ (b ++ (c ++ (d ++ (e ++ (f ++ [])))))
six_lines a b c d e f =
    append_assoc (a ++ b ++ c ++ d) e f ∙ append_assoc (a ++ b ++ c) d (e ++ f) ∙ append_assoc (a ++ b) c (d ++ (e ++ f)) ∙ append_assoc a b (c ++ (d ++ (e ++ f)))
    ∙ ap (λ (x : List ℕ). a ++ (b ++ (c ++ (d ++ (e ++ x))))) (sym (append-nil f))

-- the line of the table of what remains is that of its file
remains_lines : (remains : Option (List ℕ)) → remains_line (option_map sha256 remains) ≡ manifest (remains_files remains)
remains_lines None = refl
remains_lines (Some text) = sym (append-nil (digest_line (sha256 text) (codes "rescue.tsv")))

module _ (items : List BagItem) (tables : BagTables) (facts : BagFacts) (tags : TagDigests) where
  abbrev told : List ℕ
  told = info_text facts (bytes_in (payload items)) (files_in (payload items))

  abbrev six : List ℕ → List ℕ → List ℕ → List ℕ → List ℕ → List ℕ → List ℕ
  six declaration info table remains report manifested = digest_line declaration (codes "bagit.txt")
      ++ digest_line info (codes "bag-info.txt")
      ++ digest_line table (codes "items.csv")
      ++ remains
      ++ digest_line report (codes "volume.txt")
      ++ digest_line manifested (codes "manifest-sha256.txt")

  -- the last tag file has the digests of the others
  pub lines_are : tags.manifest ≡ sha256 (manifest (payload items)) → tags.table ≡ sha256 tables.items → tags.remains ≡ option_map sha256 tables.remains → tags.report ≡ sha256 facts.report.now
      → tags.info ≡ sha256 (info_text facts (bytes_in (payload items)) (files_in (payload items))) → tags.declaration ≡ sha256 declaration_text
      → tag_lines tags ≡ manifest (declaration_file ∷ info_file items facts ∷ table_file tables.items ∷ (remains_files tables.remains ++ (report_file facts ∷ manifest_file items ∷ [])))
  lines_are manifest_is table_is remains_is report_is info_is declaration_is =
      ap (λ (x : List ℕ). six x tags.info tags.table (remains_line tags.remains) tags.report tags.manifest) declaration_is
      ∙ ap (λ (x : List ℕ). six (sha256 declaration_text) x tags.table (remains_line tags.remains) tags.report tags.manifest) info_is
      ∙ ap (λ (x : List ℕ). six (sha256 declaration_text) (sha256 told) x (remains_line tags.remains) tags.report tags.manifest) table_is
      ∙ ap (λ (x : List ℕ). six (sha256 declaration_text) (sha256 told) (sha256 tables.items) x tags.report tags.manifest) (ap remains_line remains_is ∙ remains_lines tables.remains)
      ∙ ap (λ (x : List ℕ). six (sha256 declaration_text) (sha256 told) (sha256 tables.items) (manifest (remains_files tables.remains)) x tags.manifest) report_is
      ∙ ap (λ (x : List ℕ). six (sha256 declaration_text) (sha256 told) (sha256 tables.items) (manifest (remains_files tables.remains)) (sha256 facts.report.now) x) manifest_is
      ∙ six_lines (digest_line (sha256 declaration_text) (codes "bagit.txt")) (digest_line (sha256 told) (codes "bag-info.txt")) (digest_line (sha256 tables.items) (codes "items.csv"))
      (manifest (remains_files tables.remains)) (digest_line (sha256 facts.report.now) (codes "volume.txt")) (digest_line (sha256 (manifest (payload items))) (codes "manifest-sha256.txt"))
      ∙ ap (λ (x : List ℕ). digest_line (sha256 declaration_text) (codes "bagit.txt") ++ (digest_line (sha256 told) (codes "bag-info.txt") ++ (digest_line (sha256 tables.items) (codes "items.csv") ++ x)))
      (sym (manifest-append (remains_files tables.remains) (report_file facts ∷ manifest_file items ∷ [])))

-- ---- the table of what remains

abbrev IsTold : Bool → Type 0
IsTold true = Unit {0}
IsTold false = ⊥

told-not : true ≡ false → ⊥
told-not same = subst IsTold same tt

-- there is none
pub no_remains : (remains : Option (List ℕ)) → told_or_not remains ≡ false → remains_files remains ≡ []
no_remains None none = refl
no_remains (Some text) none = absurd (told-not none)

pub no_remains_digest : (remains : Option (List ℕ)) → told_or_not remains ≡ false → None ≡ option_map sha256 remains
no_remains_digest None none = refl
no_remains_digest (Some text) none = absurd (told-not none)

-- there is one
pub some_remains : (remains : Option (List ℕ)) → told_or_not remains ≡ true → remains_files remains ≡ file (codes "rescue.tsv") None (unwrap_or remains []) ∷ []
some_remains None some = absurd (told-not (sym some))
some_remains (Some text) some = refl

pub some_remains_digest : (remains : Option (List ℕ)) → told_or_not remains ≡ true → Some (sha256 (unwrap_or remains [])) ≡ option_map sha256 remains
some_remains_digest None some = absurd (told-not (sym some))
some_remains_digest (Some text) some = refl

-- ---- how many files there are

files_in-append : (xs ys : List ShelfEntry) → files_in (xs ++ ys) ≡ files_in xs + files_in ys
files_in-append [] ys = omega arith
files_in-append (file path time bytes ∷ rest) ys = let behind = files_in-append rest ys in omega (arith, behind)
files_in-append (folder path ∷ rest) ys = files_in-append rest ys

files_of_kind : (k : BagKind) (item : BagItem) → files_in (entries_of_kind k item) ≡ double_number (digests_of_kind k item) + file_number (digests_of_kind k item)
files_of_kind kind.File item = refl
files_of_kind kind.Folder item = refl
files_of_kind kind.FolderAlone item = refl
files_of_kind kind.DoubleAlone item = refl

files_in-items : (items : List BagItem) → files_in (items_entries items) ≡ doubles_told (map item_digests items) + files_told (map item_digests items)
files_in-items [] = refl
files_in-items (item ∷ rest) =
    let both : files_in (items_entries (item ∷ rest)) ≡ files_in (item_entries item) + files_in (items_entries rest) = files_in-append (item_entries item) (items_entries rest) in
    let one : files_in (item_entries item) ≡ double_number (item_digests item) + file_number (item_digests item) = files_of_kind item.kind item in
    let behind : files_in (items_entries rest) ≡ doubles_told (map item_digests rest) + files_told (map item_digests rest) = files_in-items rest in
    omega (arith, both, one, behind)

pub streams_are : (items : List BagItem) (told : List ItemDigests) (streams : ℕ) → streams ≡ doubles_told told + files_told told → told ≡ map item_digests items → streams ≡ files_in (payload items)
streams_are items told streams counted told_is = counted ∙ ap (λ (ds : List ItemDigests). doubles_told ds + files_told ds) told_is ∙ sym (files_in-items items)

-- a text grew behind what it was
pub laid : (old new before more : List ℕ) → new ≡ old ++ more → old ≡ before → new ≡ before ++ more
laid old new before more grown was = grown ∙ ap (λ (text : List ℕ). text ++ more) was
