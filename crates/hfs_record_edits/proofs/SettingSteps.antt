-- Each call that sets what is told of an item makes its step.
use Rattle.std.proofs.Common.{◌≡◌, ℕ, Bool, true, false, eqb, List, ◌++◌, length, take, drop, refl, ◌∙◌, ap, arith, length-take, length-drop}
use Rattle.std.specs.Prelude.{Result, ℤ}
use Rattle.std.specs.FinMap as map
use Rattle.std.proofs.lemmas.Bool.{eqb-true, and_parts}
use Rattle.std.proofs.lemmas.List.{take-append-drop}
use Rattle.hfs_fields.specs.declared.file_record.FileRecord.{FileRecord}
use Rattle.hfs_fields.specs.Records.{is_file, type_byte, dir_record_of, file_record_of}
use Rattle.hfs_fields.specs.RecordForms.{dir_record_bytes, file_record_bytes}
use Rattle.hfs_space.specs.Owners.{forks_of_file}
use Rattle.hfs_model.specs.declared.call.Call.TheVariants as call
use Rattle.hfs_model.specs.declared.item.Item.{Item}
use Rattle.hfs_model.specs.Volume.{Entry}
use Rattle.hfs_model.specs.Changes.{change, with_lock, set_f_info, set_cat_info, set_lock}
use Rattle.hfs_catalog.specs.Records.{has_thread}
use Rattle.hfs_catalog.specs.Items.{file_of, folder_of}
use Rattle.hfs_catalog.proofs.CatalogLawTypes.{ItemsAreRecords}
use Rattle.hfs_check.specs.Parts.{Blocks, catalog_in}
use Rattle.hfs_check.proofs.LawTypes.{CatalogIsSound}
use Rattle.hfs_check.specs.VolumeOf.{bytes_in, contents_in, volume_in}
use Rattle.hfs_record_edits.proofs.SettingLaws.{SetFInfoMakes, SetFileInfoMakes, SetFolderInfoMakes, SetLockMakes, with_info, with_told, with_told_folder, with_lock_bit}
use Rattle.hfs_record_edits.proofs.Made.{with_finder, with_dates, with_locked, folder_dates}
use Rattle.hfs_record_edits.proofs.SetMakes.{set_swaps, file_makes, folder_makes}

-- ---- what is as it was

finder_long : (body : List ℕ) → is_file body ≡ true → length (file_record_of body).finder_info ≡ 16
unfolding file_record_of
finder_long body file =
    let long : length body ≡ 102 = eqb-true (length body) 102 (and_parts (eqb (type_byte body) 2) (eqb (length body) 102) file).1 in
    omega (arith, long, length-take 16 (drop 4 body), length-drop 4 body)

info_forks : (info : List ℕ) (f : FileRecord) → forks_of_file (with_info info f) ≡ forks_of_file f
unfolding forks_of_file
info_forks info f = refl

info_contents : (blocks : Blocks) (info : List ℕ) (f : FileRecord) → contents_in blocks (with_info info f) ≡ contents_in blocks f
unfolding contents_in bytes_in
info_contents blocks info f = refl

told_forks : (created modified backup : ℕ) (info : List ℕ) (f : FileRecord) → forks_of_file (with_told created modified backup info f) ≡ forks_of_file f
unfolding forks_of_file
told_forks created modified backup info f = refl

told_contents : (blocks : Blocks) (created modified backup : ℕ) (info : List ℕ) (f : FileRecord) → contents_in blocks (with_told created modified backup info f) ≡ contents_in blocks f
unfolding contents_in bytes_in
told_contents blocks created modified backup info f = refl

lock_forks : (locked : Bool) (f : FileRecord) → forks_of_file (with_lock_bit locked f) ≡ forks_of_file f
unfolding forks_of_file
lock_forks locked f = refl

lock_contents : (blocks : Blocks) (locked : Bool) (f : FileRecord) → contents_in blocks (with_lock_bit locked f) ≡ contents_in blocks f
unfolding contents_in bytes_in
lock_contents blocks locked f = refl

-- ---- the calls

pub set_f_info_makes : ItemsAreRecords → CatalogIsSound → SetFInfoMakes
unfolding volume_in set_f_info
set_f_info_makes law catalogs total now dir name info r old new h c s =
    let f = file_record_of r.1 in
    file_makes law catalogs total now c.id r (with_info info f) old new h s.was s.value c.was (set_swaps total _ r old h c (file_record_bytes (with_info info f)) now new s.set) s.set.tree
    refl (info_forks info f) (info_contents new info f) (call.SetFInfo dir name info now) (λ (y : Item). record y { finder = info ++ drop 16 y.finder })
    (with_finder (has_thread (catalog_in old) f.id) (contents_in old f) r.0 f info (finder_long r.1 s.was))
    (ap (λ (e : Result Entry ℤ). (change (volume_in old) e (λ e m. map.insert m e.0 (record e.1 { finder = info ++ drop 16 e.1.finder })) now).0) c.is)

pub set_file_info_makes : ItemsAreRecords → CatalogIsSound → SetFileInfoMakes
unfolding volume_in set_cat_info
set_file_info_makes law catalogs total now dir created modified backup name info r old new h c s =
    let f = file_record_of r.1 in
    let g = with_told created modified backup info f in
    let told = λ (whole : List ℕ) (y : Item). record y { created = created; modified = modified; backup = backup; finder = whole } in
    file_makes law catalogs total now c.id r g old new h s.was s.value c.was (set_swaps total _ r old h c (file_record_bytes g) now new s.set) s.set.tree
    refl (told_forks created modified backup info f) (told_contents new created modified backup info f) (call.SetCatInfo dir name created modified backup info now) (told info)
    (with_dates (has_thread (catalog_in old) f.id) (contents_in old f) r.0 f created modified backup (take 16 info) (drop 16 info)
    ∙ (λ j. told (take-append-drop 16 info j) (file_of (has_thread (catalog_in old) f.id) (contents_in old f) r.0 f)))
    (ap (λ (e : Result Entry ℤ). (change (volume_in old) e (λ e m. map.insert m e.0 (told info e.1)) now).0) c.is)

pub set_folder_info_makes : ItemsAreRecords → CatalogIsSound → SetFolderInfoMakes
unfolding volume_in set_cat_info
set_folder_info_makes law catalogs total now dir created modified backup name info r old new h c s =
    let d = dir_record_of r.1 in
    let g = with_told_folder created modified backup info d in
    let told = λ (whole : List ℕ) (y : Item). record y { created = created; modified = modified; backup = backup; finder = whole } in
    folder_makes law catalogs total now c.id r g old new h s.was s.value c.was (set_swaps total _ r old h c (dir_record_bytes g) now new s.set) s.set.tree
    refl refl (call.SetCatInfo dir name created modified backup info now) (told info)
    (folder_dates r.0 d created modified backup (take 16 info) (drop 16 info) ∙ (λ j. told (take-append-drop 16 info j) (folder_of r.0 d)))
    (ap (λ (e : Result Entry ℤ). (change (volume_in old) e (λ e m. map.insert m e.0 (told info e.1)) now).0) c.is)

pub set_lock_makes : ItemsAreRecords → CatalogIsSound → SetLockMakes
unfolding volume_in set_lock
set_lock_makes law catalogs true total now dir name r old new h c s =
    let f = file_record_of r.1 in
    file_makes law catalogs total now c.id r (with_lock_bit true f) old new h s.was s.value c.was (set_swaps total _ r old h c (file_record_bytes (with_lock_bit true f)) now new s.set) s.set.tree
    refl (lock_forks true f) (lock_contents new true f) (call.SetFLock dir name now) (λ (y : Item). record y { kind = with_lock true y.kind })
    (with_locked (has_thread (catalog_in old) f.id) (contents_in old f) r.0 f true)
    (ap (λ (e : Result Entry ℤ). (change (volume_in old) e (λ e m. map.insert m e.0 (record e.1 { kind = with_lock true e.1.kind })) now).0) c.is)
set_lock_makes law catalogs false total now dir name r old new h c s =
    let f = file_record_of r.1 in
    file_makes law catalogs total now c.id r (with_lock_bit false f) old new h s.was s.value c.was (set_swaps total _ r old h c (file_record_bytes (with_lock_bit false f)) now new s.set) s.set.tree
    refl (lock_forks false f) (lock_contents new false f) (call.RstFLock dir name now) (λ (y : Item). record y { kind = with_lock false y.kind })
    (with_locked (has_thread (catalog_in old) f.id) (contents_in old f) r.0 f false)
    (ap (λ (e : Result Entry ℤ). (change (volume_in old) e (λ e m. map.insert m e.0 (record e.1 { kind = with_lock false e.1.kind })) now).0) c.is)
