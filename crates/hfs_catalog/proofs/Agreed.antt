-- The checks on one record each.
use Rattle.std.proofs.Common.{◌≡◌, ℕ, Bool, true, false, List, [], length, refl, ap, eqb, None}
use Rattle.std.specs.Prelude.{◌↔◌}
use Rattle.std.proofs.lemmas.Bool.{eqb-true, eq-eqb}
use Rattle.hfs_fields.specs.declared.mdb.Mdb.{Mdb}
use Rattle.hfs_fields.specs.declared.key.CatKey.{CatKey}
use Rattle.hfs_fields.specs.Each.{Each}
use Rattle.hfs_fields.proofs.ElementLemmas.{each-mono, each-both}
use Rattle.hfs_fields.specs.First.{first_failing}
use Rattle.hfs_catalog.specs.Records.{Catalog}
use Rattle.hfs_catalog.specs.Sound.{EachFolder, IsRecord, AreNamesSound, IsIndexKeyName, HasValence, AreCountsSound, counts_of}
use Rattle.hfs_catalog.specs.Faults.{unless, is_record_right, record_fault, is_name_right, is_index_key_name, name_fault, is_valence_right, valence_fault, count_fault}
use Rattle.hfs_fields.proofs.TwoFaultLemmas.{neither, both_none}
use Rattle.hfs_fields.proofs.ScanLemmas.{check, all_decides}
use Rattle.hfs_catalog.proofs.Decided.{record_decides, name_decides, index_key_decides, valence_decides}
use Rattle.hfs_model.proofs.InOrder.{none_some}

-- ---- one fault

pub holds : (b : Bool) (place : ℕ) → unless b place ≡ None → b ≡ true
holds true place e = refl
holds false place e = absurd (none_some place e)

pub no_fault : (b : Bool) (place : ℕ) → b ≡ true → unless b place ≡ None
no_fault b place e = ap (λ (t : Bool). unless t place) e

-- ---- the checks

pub no_record_fault : (catalog : Catalog) → (record_fault catalog ≡ None) ↔ Each IsRecord catalog
unfolding record_fault
no_record_fault catalog = check is_record_right IsRecord record_decides catalog

pub no_valence_fault : (catalog : Catalog) → (valence_fault catalog ≡ None) ↔ EachFolder (HasValence catalog) catalog
unfolding valence_fault
no_valence_fault catalog = check (is_valence_right catalog) _ (valence_decides catalog) catalog

pub no_name_fault : (index_keys : List CatKey) (catalog : Catalog) → (name_fault index_keys catalog ≡ None) ↔ (AreNamesSound catalog × Each IsIndexKeyName index_keys)
unfolding name_fault
no_name_fault index_keys catalog = (
  λ is.
      let both = neither (first_failing (λ _ r. is_name_right r) [] catalog) _ is in
      let each = (check is_name_right _ name_decides catalog).0 both.0 in (
        record { items = each-mono _ _ catalog (λ r h. h.0) each; threads = each-mono _ _ catalog (λ r h. h.1) each },
        (all_decides is_index_key_name IsIndexKeyName index_key_decides index_keys).0 (holds _ (length catalog) both.1),
      ),
  λ h.
      both_none _ _ ((check is_name_right _ name_decides catalog).1 (each-both _ _ catalog h.0.items h.0.threads))
      (no_fault _ (length catalog) ((all_decides is_index_key_name IsIndexKeyName index_key_decides index_keys).1 h.1)),
)

pub no_count_fault : (mdb : Mdb) (catalog : Catalog) → (count_fault mdb catalog ≡ None) ↔ AreCountsSound mdb catalog
unfolding count_fault
no_count_fault mdb catalog = (
  λ is.
      let one = neither (unless (eqb mdb.root_files (counts_of catalog).root_files) 1) _ is in
      let two = neither (unless (eqb mdb.root_folders (counts_of catalog).root_folders) 2) _ one.1 in
      let three = neither (unless (eqb mdb.files (counts_of catalog).files) 3) (unless (eqb mdb.folders (counts_of catalog).folders) 4) two.1 in
      record {
        root_files = eqb-true _ _ (holds _ 1 one.0);
        root_folders = eqb-true _ _ (holds _ 2 two.0);
        files = eqb-true _ _ (holds _ 3 three.0);
        folders = eqb-true _ _ (holds _ 4 three.1);
      },
  λ h.
      both_none _ _ (no_fault _ 1 (eq-eqb _ _ h.root_files))
      (both_none _ _ (no_fault _ 2 (eq-eqb _ _ h.root_folders))
      (both_none _ _ (no_fault _ 3 (eq-eqb _ _ h.files)) (no_fault _ 4 (eq-eqb _ _ h.folders)))),
)
