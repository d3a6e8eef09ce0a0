-- The records of a sound image answer the queries of its volume.
use Rattle.std.proofs.Common.{◌≡◌, ℕ, ◌<◌, Bool, true, false, cond, List, [], length, ⊎_elim, refl, sym, ◌∙◌, ap, subst}
use Rattle.std.specs.Prelude.{IsTrue}
use Rattle.std.specs.FinMap as finite
use Rattle.std.proofs.lemmas.Bool.{or_cases, true≢false}
use Rattle.hfs_fields.specs.Records.{is_dir, is_file, is_item, item_id, dir_record_of, file_record_of}
use Rattle.hfs_fields.specs.declared.key.CatKey.{CatKey}
use Rattle.hfs_fields.specs.declared.dir_record.DirRecord.{DirRecord}
use Rattle.hfs_fields.specs.declared.file_record.FileRecord.{FileRecord}
use Rattle.hfs_fields.specs.declared.file_record.ForkRecord.{ForkRecord}
use Rattle.hfs_fields.specs.Each.{Each}
use Rattle.hfs_fields.proofs.ElementLemmas.{each-mono, each-both}
use Rattle.hfs_model.specs.Volume.{Entry}
use Rattle.hfs_model.specs.Children.{valence, entries_of}
use Rattle.hfs_model.specs.Replies.{info_of}
use Rattle.hfs_space.specs.Owners.{forks_of, forks_of_file}
use Rattle.hfs_space.specs.Sound.{IsForkSound}
use Rattle.hfs_space.specs.Extents.{fork_byte}
use Rattle.hfs_space.specs.declared.fork_kind.ForkKind.{ForkKind}
use Rattle.hfs_space.specs.declared.fork_kind.ForkKind.TheVariants.{Data, Resource}
use Rattle.hfs_catalog.specs.declared.item.ItemRecord.TheVariants.{Folder, File}
use Rattle.hfs_catalog.specs.Records.{Record, Catalog, has_thread, valence_of}
use Rattle.hfs_catalog.specs.Sound.{HasValence}
use Rattle.hfs_catalog.specs.Items.{Contents, folder_of, file_of, item_of, entry_of, items_in}
use Rattle.hfs_catalog.specs.Lookups.{catalog_item}
use Rattle.hfs_catalog.proofs.CatalogLawTypes.{EntriesAreRecords, NamedAreRecords, RecordsAreChildren, ValencesAreCounted}
use Rattle.hfs_check.proofs.LawTypes.{TreesAreSound, CatalogIsSound}
use Rattle.hfs_check.specs.Parts.{Blocks, mdb_in, overflow_in, catalog_nodes, catalog_in}
use Rattle.hfs_check.specs.Sound.{AreBlocksSound}
use Rattle.hfs_check.specs.VolumeOf.{bytes_in, contents_in, volume_in}
use Rattle.hfs_items.specs.Told.{IsCatalog, folder_info, file_info, body_info, told}
use Rattle.hfs_items.specs.Queries.{AreEntries}
use Rattle.hfs_items.proofs.QueriesLaws.{RecordsAreEntries, CatalogsAreSound}
use Rattle.hfs_space.proofs.ForkLengthLemmas.{length-fork_bytes}

-- ---- what is told of a folder

folder_told : (es : List Entry) (key : CatKey) (d : DirRecord) → valence es d.id ≡ d.valence → info_of es (d.id, folder_of key d) ≡ folder_info key d
unfolding info_of folder_of folder_info
folder_told es key d counted i = record (folder_info key d) { valence = counted i }

-- ---- what is told of a file

file_told : (es : List Entry) (has : Bool) (forks : List ℕ × List ℕ) (key : CatKey) (f : FileRecord) → length forks.0 ≡ f.«data».length → length forks.1 ≡ f.resource.length
    → info_of es (f.id, file_of has forks key f) ≡ file_info has key f
unfolding info_of file_of file_info
file_told es has forks key f is_data is_resource i = record (file_info has key f) { data_len = is_data i; res_len = is_resource i }

-- ---- the lengths of forks

-- both forks of a file have as many bytes as its record says
pub record AreLong (blocks : Blocks) (f : FileRecord) : Type 0 where
  pub is_data : length (contents_in blocks f).0 ≡ f.«data».length
  pub is_resource : length (contents_in blocks f).1 ≡ f.resource.length

module _ (total : ℕ) (blocks : Blocks) (whole : (n : ℕ) → n < total → length (blocks n) ≡ 512) (sound : AreBlocksSound total blocks) where
  pub length-bytes_in : (file : ℕ) (kind : ForkKind) (fork : ForkRecord)
      → IsForkSound (mdb_in blocks) (overflow_in blocks) (record { file = file; fork = fork_byte kind; len = fork.length; first = fork.extents }) → length (bytes_in blocks file kind fork) ≡ fork.length
  unfolding bytes_in
  length-bytes_in file kind fork h =
      length-fork_bytes blocks total whole (mdb_in blocks) sound.mdb.area _ fork.length sound.mdb.whole_size h.within h.room

  are_long : (r : Record) → is_file r.1 ≡ true → Each (IsForkSound (mdb_in blocks) (overflow_in blocks)) (forks_of r) → AreLong blocks (file_record_of r.1)
  unfolding contents_in forks_of_file
  are_long r file forks =
      let f = file_record_of r.1 in
      let both : Each (IsForkSound (mdb_in blocks) (overflow_in blocks)) (forks_of_file f) = subst (λ (b : Bool). Each (IsForkSound (mdb_in blocks) (overflow_in blocks)) (cond b (forks_of_file f) [])) file forks in
      record { is_data = length-bytes_in f.id Data f.«data» both.0; is_resource = length-bytes_in f.id Resource f.resource both.1.0 }

  -- of each file
  pub files_are_long : Each (λ r. is_file r.1 ≡ true → AreLong blocks (file_record_of r.1)) (catalog_in blocks)
  files_are_long = each-mono _ _ (catalog_in blocks) (λ r forks file. are_long r file forks) sound.forks.files

-- ---- what is told of a record's item

module _ (contents : Contents) (catalog : Catalog) (es : List Entry) (r : Record) where
  abbrev as_entry : Bool → Entry
  as_entry b = (cond b (dir_record_of r.1).id (file_record_of r.1).id, cond b (folder_of r.0 (dir_record_of r.1)) (file_of (has_thread catalog (file_record_of r.1).id) (contents (file_record_of r.1)) r.0 (file_record_of r.1)))

  is_entry : (b : Bool) → is_dir r.1 ≡ b → entry_of contents catalog r ≡ as_entry b
  unfolding item_of
  is_entry b e = ap as_entry e

  is_told : (b : Bool) → is_dir r.1 ≡ b → told catalog r ≡ cond b (folder_info r.0 (dir_record_of r.1)) (file_info (has_thread catalog (file_record_of r.1).id) r.0 (file_record_of r.1))
  unfolding catalog_item
  is_told true e = ap (λ b. body_info catalog r.0 (cond b (Folder (dir_record_of r.1)) (File (file_record_of r.1)))) e
  is_told false e = ap (λ b. body_info catalog r.0 (cond b (Folder (dir_record_of r.1)) (File (file_record_of r.1)))) e

  record_told : IsTrue (is_item r.1)
      → (IsTrue (is_dir r.1) → HasValence catalog r)
      → ((dir : ℕ) → valence es dir ≡ valence_of catalog dir)
      → (is_file r.1 ≡ true → (length (contents (file_record_of r.1)).0 ≡ (file_record_of r.1).«data».length) × (length (contents (file_record_of r.1)).1 ≡ (file_record_of r.1).resource.length))
      → info_of es (entry_of contents catalog r) ≡ told catalog r
  record_told item counted valences long = elim (is_dir r.1) as (λ (b : Bool). is_dir r.1 ≡ b → info_of es (entry_of contents catalog r) ≡ told catalog r) [
    | true ↦ λ e.
        let own : item_id r.1 ≡ (dir_record_of r.1).id = ap (λ b. cond b (dir_record_of r.1).id (file_record_of r.1).id) e in
        let count : valence es (dir_record_of r.1).id ≡ (dir_record_of r.1).valence = valences (dir_record_of r.1).id ∙ ap (valence_of catalog) (sym own) ∙ sym (counted e).counted in
        ap (info_of es) (is_entry true e) ∙ folder_told es r.0 (dir_record_of r.1) count ∙ sym (is_told true e)
    | false ↦ λ e.
        let file : is_file r.1 ≡ true = ⊎_elim (λ (d : is_dir r.1 ≡ true). absurd (true≢false (sym d ∙ e))) (λ f. f) (or_cases (is_dir r.1) (is_file r.1) item) in
        let both = long file in
        ap (info_of es) (is_entry false e) ∙ file_told es _ _ r.0 (file_record_of r.1) both.0 both.1 ∙ sym (is_told false e)
  ] refl

-- ---- all queries

pub records_are_entries : CatalogIsSound → EntriesAreRecords → NamedAreRecords → RecordsAreChildren → ValencesAreCounted → RecordsAreEntries
unfolding volume_in
records_are_entries catalog_is_sound entries named children counted total blocks whole sound =
    let catalog = catalog_in blocks in
    let contents = contents_in blocks in
    let es = finite.entries (items_in contents catalog) in
    let next = (mdb_in blocks).next_id in
    let least = sound.mdb.next_id in
    let is = catalog_is_sound total blocks sound in
    record {
      by_id = entries contents catalog;
      named = λ dir name. named contents next catalog is dir name;
      children = λ dir. sym (children contents next catalog least is dir);
      told = each-mono _ _ catalog
          (λ r both item. record_told contents catalog es r item both.0 (counted contents next catalog least is) (λ file. ((both.1 file).is_data, (both.1 file).is_resource)))
          (each-both _ _ catalog sound.valences (files_are_long total blocks whole sound));
    }

pub catalogs_are_sound : TreesAreSound → CatalogIsSound → CatalogsAreSound
unfolding catalog_in
catalogs_are_sound trees catalog total blocks sound = record {
  tree = (trees total blocks sound).1;
  next = (mdb_in blocks).next_id;
  catalog = catalog total blocks sound;
}
