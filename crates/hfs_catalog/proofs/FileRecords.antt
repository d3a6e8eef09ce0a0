-- A record of the catalog that is one of a file, as its item is read.
use Rattle.std.proofs.Common.{◌≡◌, ⊎_elim, ℕ, Bool, true, false, cond, eqb, List, length, Some, None, refl, sym, ap, ◌∙◌, arith, true≢false}
use Rattle.std.proofs.lemmas.Bool.{and_parts, eqb-true, or_cases}
use Rattle.hfs_catalog.specs.declared.item.CatalogItem.{CatalogItem}
use Rattle.hfs_catalog.specs.declared.item.ItemRecord.TheVariants.{Folder, File}
use Rattle.hfs_catalog.specs.Lookups.{catalog_item, record_of}
use Rattle.hfs_catalog.specs.Records.{Record}
use Rattle.hfs_fields.specs.declared.dir_record.DirRecord.{DirRecord}
use Rattle.hfs_fields.specs.declared.file_record.FileRecord.{FileRecord}
use Rattle.hfs_fields.specs.declared.key.CatKey.{CatKey}
use Rattle.hfs_fields.specs.Records.{is_dir, is_file, is_item, type_byte, dir_record_of, file_record_of}

pub not-dir : (body : List ℕ) → is_file body ≡ true → is_dir body ≡ false
not-dir body file = elim (is_dir body) as (λ (b : Bool). is_dir body ≡ b → b ≡ false) [
  | true ↦ λ e.
      let one : length body ≡ 70 = eqb-true (length body) 70 (and_parts (eqb (type_byte body) 1) (eqb (length body) 70) e).1 in
      let two : length body ≡ 102 = eqb-true (length body) 102 (and_parts (eqb (type_byte body) 2) (eqb (length body) 102) file).1 in
      absurd (omega (arith, one, two))
  | false ↦ λ e. refl
] refl

pub some-item : (r : Record) (key : CatKey) (body : List ℕ) (item : CatalogItem) → key ≡ r.0 → body ≡ r.1
    → Some item ≡ cond (is_item body) (Some (catalog_item (key, body))) None → item.body ≡ record_of r.1
unfolding catalog_item
some-item r key body item same_key same_body found = by (is_item body) found
  where
    by : (b : Bool) → Some item ≡ cond b (Some (catalog_item (key, body))) None → item.body ≡ record_of r.1
    by true e = ap (λ (i : CatalogItem). i.body) (same item (catalog_item (key, body)) e) ∙ ap record_of same_body
      where
        same : (x y : CatalogItem) → Some x ≡ Some y → x ≡ y
        same x y e = cc
    by false e = absurd (none-some item (sym e))
      where
        none-some : (x : CatalogItem) → None ≡ Some x → ⊥
        none-some x e = cc

pub some-is : (body : List ℕ) (item other : CatalogItem) → Some item ≡ cond (is_item body) (Some other) None → is_item body ≡ true
some-is body item other found = by (is_item body) found
  where
    none-some : (x : CatalogItem) → None ≡ Some x → ⊥
    none-some x e = cc

    by : (b : Bool) → Some item ≡ cond b (Some other) None → b ≡ true
    by true e = refl
    by false e = absurd (none-some item (sym e))

pub is-file-record : (r : Record) (file : FileRecord) → File file ≡ record_of r.1 → is_item r.1 ≡ true → (is_file r.1 ≡ true) × (file ≡ file_record_of r.1)
is-file-record r file e item = by (is_dir r.1) refl e
  where
    by : (b : Bool) → is_dir r.1 ≡ b → File file ≡ cond b (Folder (dir_record_of r.1)) (File (file_record_of r.1)) → (is_file r.1 ≡ true) × (file ≡ file_record_of r.1)
    by true d e = absurd (folder-file e)
      where
        folder-file : File file ≡ Folder (dir_record_of r.1) → ⊥
        folder-file e = cc
    by false d e = (⊎_elim (λ (dir : is_dir r.1 ≡ true). absurd (true≢false (sym dir ∙ d))) (λ f. f) (or_cases (is_dir r.1) (is_file r.1) item), same e)
      where
        same : File file ≡ File (file_record_of r.1) → file ≡ file_record_of r.1
        same e = cc

pub folder-no-file : (r : Record) (folder : DirRecord) → Folder folder ≡ record_of r.1 → is_file r.1 ≡ true → ⊥
folder-no-file r folder e file = by (is_dir r.1) refl e
  where
    by : (b : Bool) → is_dir r.1 ≡ b → Folder folder ≡ cond b (Folder (dir_record_of r.1)) (File (file_record_of r.1)) → ⊥
    by true d e = true≢false (sym d ∙ not-dir r.1 file)
    by false d e = folder-file e
      where
        folder-file : Folder folder ≡ File (file_record_of r.1) → ⊥
        folder-file e = cc

pub entry-file : (r : Record) (key : CatKey) (body : List ℕ) (item : CatalogItem) (file : FileRecord) → key ≡ r.0 → body ≡ r.1
    → Some item ≡ cond (is_item body) (Some (catalog_item (key, body))) None → item.body ≡ File file → (is_file r.1 ≡ true) × (file ≡ file_record_of r.1)
entry-file r key body item file same_key same_body found is =
    is-file-record r file (sym is ∙ some-item r key body item same_key same_body found)
    (ap is_item (sym same_body) ∙ some-is body item (catalog_item (key, body)) found)
