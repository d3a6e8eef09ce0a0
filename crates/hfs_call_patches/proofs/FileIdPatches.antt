-- A patch of the catalog in which a file's thread came or went makes the call's step.
use Rattle.std.proofs.Common.{◌≡◌, ℕ, Bool, true, false, sym, ap, ◌∙◌, subst, Option, Some, None}
use Rattle.hfs_fields.specs.declared.key.CatKey.{CatKey}
use Rattle.hfs_fields.specs.declared.file_record.FileRecord.{FileRecord}
use Rattle.hfs_fields.specs.declared.mdb.Mdb.{Mdb}
use Rattle.hfs_fields.specs.declared.thread_record.ThreadKind.TheVariants as kind
use Rattle.hfs_fields.specs.Records.{new_thread, file_record_of}
use Rattle.hfs_fields.specs.RecordForms.{IsFileRecordValue, IsThreadRecordValue}
use Rattle.hfs_btree.specs.Tree.{Store}
use Rattle.hfs_catalog.specs.Records.{Record, Catalog, item_with}
use Rattle.hfs_catalog.specs.Lookups.{thread_of}
use Rattle.hfs_catalog.specs.Tree.{catalog_of}
use Rattle.hfs_record_edits.specs.Bodies.{thread_record}
use Rattle.hfs_record_edits.specs.Finds.{record_at}
use Rattle.hfs_record_edits.proofs.FindLemmas.{own_record}
use Rattle.hfs_record_edits.specs.Swaps.{Swaps}
use Rattle.hfs_check.specs.Parts.{Blocks, mdb_in, catalog_nodes, catalog_in}
use Rattle.hfs_check.specs.Sound.{AreBlocksSound}
use Rattle.hfs_record_edits.specs.FileIdLaws.{with_thread_flag}
use Rattle.hfs_record_edits.proofs.FileIdLaws.{file_with_flag, CreateFileIdMakes, DeleteFileIdMakes}
use Rattle.hfs_record_edits.specs.OnBlocks.{at_time, HasTree}
use Rattle.hfs_items.proofs.FolderLemmas.{found_with}
use Rattle.hfs_call_patches.specs.CatalogPatch.{HasCatalog}
use Rattle.hfs_call_patches.specs.FileIds.{flagged_file, FileIdCame, FileIdWent, MakesCreateFileId, MakesDeleteFileId}
use Rattle.hfs_call_patches.proofs.ChosenFileLemmas.{file_id_is}
use Rattle.hfs_call_patches.proofs.Opened.{content_open}

-- ---- what was edited is what the law asks for

module _ (total now : ℕ) (old new : Blocks) (h : AreBlocksSound total old) (mdb counts : Mdb) (own : mdb ≡ mdb_in old) (at : counts ≡ at_time now mdb) (key : CatKey) (file : FileRecord) (s edited : Store)
    (opened : s ≡ catalog_nodes old) (closed : HasCatalog counts (catalog_of edited) old new) where
  its_tree : HasTree (at_time now (mdb_in old)) old new
  its_tree = subst (λ (m : Mdb). HasTree m old new) (at ∙ ap (at_time now) own) closed.tree

  file_set : (there : Bool) (between : Catalog) (r : Record) → record_at r.0 (catalog_in old) ≡ Some r → r.0 ≡ key → file_record_of r.1 ≡ file
      → Swaps (record_at key (catalog_of s)) (Some (flagged_file there key file)) (catalog_of s) between → Swaps (Some r) (Some (file_with_flag there r)) (catalog_in old) between
  file_set there between r found own_key own_file swap =
      subst (λ (o : Option Record). Swaps o (Some (file_with_flag there r)) (catalog_in old) between) found
      (subst (λ (x : CatKey × FileRecord × Catalog). Swaps (record_at x.0 x.2) (Some (flagged_file there x.0 x.1)) x.2 between) (λ i. (sym own_key i, sym own_file i, content_open old s opened i)) swap)

  own_found : (id : ℕ) (r : Record) → item_with (catalog_in old) id ≡ Some r → record_at r.0 (catalog_in old) ≡ Some r
  own_found id r was = own_record (catalog_in old) r h.places.records.rises (found_with (catalog_in old) id r was).there

  pub create_made : CreateFileIdMakes → FileIdCame key file s edited → MakesCreateFileId key file now old new
  create_made law came dir name c =
      law total now dir name c.of old new h c.choice (record {
        second = came.between;
        file_set = file_set true came.between c.of (own_found c.choice.id c.of c.choice.was) c.own_key c.own_file came.file_set;
        thread_came = subst (λ (x : ℕ × CatKey × Catalog). Swaps None (Some (thread_record x.0 (new_thread kind.File x.1.parent x.1.name))) came.between x.2)
            (λ i. (file_id_is old _ key file c i, sym c.own_key i, sym closed.content i)) came.thread_came;
        was = c.is;
        value = subst (λ (f : FileRecord). IsFileRecordValue (with_thread_flag true f)) (sym c.own_file) came.value;
        thread_value = subst (λ (k : CatKey). IsThreadRecordValue (new_thread kind.File k.parent k.name)) (sym c.own_key) came.thread_value;
        tree = its_tree;
      })

  pub delete_made : DeleteFileIdMakes → FileIdWent key file s edited → MakesDeleteFileId key file now old new
  delete_made law went id c =
      law total now id c.of old new h c.choice (record {
        second = went.between;
        file_set = file_set false went.between c.of (own_found c.choice.id c.of c.choice.was) c.own_key c.own_file went.file_set;
        thread_went = subst (λ (x : ℕ × Catalog). Swaps (thread_of went.between x.0) None went.between x.1)
            (λ i. (file_id_is old _ key file c i, sym closed.content i)) went.thread_went;
        was = c.is;
        value = subst (λ (f : FileRecord). IsFileRecordValue (with_thread_flag false f)) (sym c.own_file) went.value;
        tree = its_tree;
      })
