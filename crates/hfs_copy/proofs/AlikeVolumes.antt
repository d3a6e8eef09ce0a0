-- Volumes of blocks with the same records hold the same, but for the bytes of forks.
use Rattle.std.proofs.Common.{◌≡◌, ℕ, Bool, true, false, cond, List, [], ◌∷◌, length, map, refl, sym, ap, ◌∙◌, true≢false, ⊎_elim}
use Rattle.std.specs.Prelude.{replicate}
use Rattle.std.specs.FinMap as fin
use Rattle.std.proofs.lemmas.Bool.{or_cases}
use Rattle.hfs_model.specs.Alike.{AreAlike, bare, bare_item, bare_items, bare_volume, no_file}
use Rattle.hfs_model.proofs.BareEntries.{from_entries-bare}
use Rattle.hfs_fields.specs.declared.file_record.FileRecord.{FileRecord}
use Rattle.hfs_fields.specs.declared.key.CatKey.{CatKey}
use Rattle.hfs_fields.specs.Records.{is_dir, is_file, is_item, item_id, dir_record_of, file_record_of, is_bit_set}
use Rattle.hfs_model.specs.declared.item.Kind.TheVariants as kind
use Rattle.hfs_fields.specs.Each.{Each}
use Rattle.hfs_catalog.specs.Items.{file_kept, folder_of, file_of, item_of, entry_of, items_in}
use Rattle.hfs_catalog.specs.Records.{Record, Catalog, has_thread, items_of}
use Rattle.hfs_check.specs.Parts.{Blocks, catalog_in}
use Rattle.hfs_check.specs.VolumeOf.{contents_in, volume_in}
use Rattle.hfs_image.specs.Laws.{volume_with}
use Rattle.hfs_items.proofs.Queries.{AreLong}

file-alike : (has : Bool) (forks others : List ℕ × List ℕ) (key : CatKey) (f : FileRecord) → length forks.0 ≡ length others.0 → length forks.1 ≡ length others.1
    → bare_item false (file_of has forks key f) ≡ bare_item false (file_of has others key f)
unfolding file_of
file-alike has forks others key f first second = λ i. record (bare_item false (file_of has forks key f)) {
  kind = kind.File (record { kept = file_kept f; locked = is_bit_set 0 f.flags.0; has_thread = has; «data» = replicate (first i) 0; resource = replicate (second i) 0 });
}

-- both forks of each file are as long as its record says
abbrev pub FilesAreLong : Blocks → Catalog → Type 0
FilesAreLong blocks catalog = Each (λ (r : Record). is_file r.1 ≡ true → AreLong blocks (file_record_of r.1)) catalog

-- both forks of each file with one of these IDs are the same in both
abbrev pub FilesAreSame : (ℕ → Bool) → Blocks → Blocks → Catalog → Type 0
FilesAreSame keep old new catalog =
    Each (λ (r : Record). is_file r.1 ≡ true → keep (item_id r.1) ≡ true → contents_in new (file_record_of r.1) ≡ contents_in old (file_record_of r.1)) catalog

-- of no file
pub none-same : (old new : Blocks) (catalog : Catalog) → FilesAreSame no_file old new catalog
none-same old new [] = tt
none-same old new (r ∷ rs) = (λ file kept. absurd (true≢false (sym kept)), none-same old new rs)

module _ (keep : ℕ → Bool) (old new : Blocks) (catalog : Catalog) where
  kept-file : (kept : Bool) (r : Record) → (kept ≡ true → contents_in new (file_record_of r.1) ≡ contents_in old (file_record_of r.1))
      → AreLong old (file_record_of r.1) → AreLong new (file_record_of r.1)
      → bare_item kept (file_of (has_thread catalog (file_record_of r.1).id) (contents_in old (file_record_of r.1)) r.0 (file_record_of r.1))
      ≡ bare_item kept (file_of (has_thread catalog (file_record_of r.1).id) (contents_in new (file_record_of r.1)) r.0 (file_record_of r.1))
  kept-file true r same before after =
      ap (λ (forks : List ℕ × List ℕ). bare_item true (file_of (has_thread catalog (file_record_of r.1).id) forks r.0 (file_record_of r.1))) (sym (same refl))
  kept-file false r same before after =
      let f = file_record_of r.1 in
      file-alike (has_thread catalog f.id) (contents_in old f) (contents_in new f) r.0 f (before.is_data ∙ sym after.is_data) (before.is_resource ∙ sym after.is_resource)

  item-alike : (r : Record) → is_item r.1 ≡ true → (is_file r.1 ≡ true → AreLong old (file_record_of r.1)) → (is_file r.1 ≡ true → AreLong new (file_record_of r.1))
      → (is_file r.1 ≡ true → keep (item_id r.1) ≡ true → contents_in new (file_record_of r.1) ≡ contents_in old (file_record_of r.1))
      → bare_item (keep (item_id r.1)) (item_of (contents_in old) catalog r) ≡ bare_item (keep (item_id r.1)) (item_of (contents_in new) catalog r)
  unfolding item_of
  item-alike r item before after same =
      let f = file_record_of r.1 in
      let has = has_thread catalog f.id in
      let kept = keep (item_id r.1) in
      elim (is_dir r.1)
      as (λ (b : Bool). is_dir r.1 ≡ b → bare_item kept (cond b (folder_of r.0 (dir_record_of r.1)) (file_of has (contents_in old f) r.0 f))
      ≡ bare_item kept (cond b (folder_of r.0 (dir_record_of r.1)) (file_of has (contents_in new f) r.0 f))) [
        | true ↦ λ e. refl
        | false ↦ λ e.
            let file : is_file r.1 ≡ true = ⊎_elim (λ (d : is_dir r.1 ≡ true). absurd (true≢false (sym d ∙ e))) (λ f. f) (or_cases (is_dir r.1) (is_file r.1) item) in
            kept-file kept r (same file) (before file) (after file)
      ] refl

  entries-alike : (rs : Catalog) → FilesAreLong old rs → FilesAreLong new rs → FilesAreSame keep old new rs
      → map (bare keep) (map (entry_of (contents_in old) catalog) (items_of rs)) ≡ map (bare keep) (map (entry_of (contents_in new) catalog) (items_of rs))
  entries-alike [] before after same = refl
  entries-alike (r ∷ rs) before after same =
      let rest = entries-alike rs before.1 after.1 same.1 in
      elim (is_item r.1)
      as (λ (b : Bool). is_item r.1 ≡ b → map (bare keep) (map (entry_of (contents_in old) catalog) (cond b (r ∷ items_of rs) (items_of rs)))
      ≡ map (bare keep) (map (entry_of (contents_in new) catalog) (cond b (r ∷ items_of rs) (items_of rs)))) [
        | true ↦ λ e. λ i. (item_id r.1, item-alike r e before.0 after.0 same.0 i) ∷ rest i
        | false ↦ λ e. rest
      ] refl

  pub items-alike : FilesAreLong old catalog → FilesAreLong new catalog → FilesAreSame keep old new catalog
      → bare_items keep (items_in (contents_in old) catalog) ≡ bare_items keep (items_in (contents_in new) catalog)
  unfolding items_in
  items-alike before after same =
      from_entries-bare keep (map (entry_of (contents_in old) catalog) (items_of catalog)) ∙ ap (λ l. fin.from_entries l) (entries-alike catalog before after same)
      ∙ sym (from_entries-bare keep (map (entry_of (contents_in new) catalog) (items_of catalog)))

pub volumes-alike : (keep : ℕ → Bool) (old new : Blocks) → volume_in new ≡ volume_with (contents_in new) old → FilesAreLong old (catalog_in old)
    → FilesAreLong new (catalog_in old) → FilesAreSame keep old new (catalog_in old) → AreAlike keep (volume_in old) (volume_in new)
unfolding volume_in
volumes-alike keep old new volume before after same =
    (λ i. record (volume_in old) { items = items-alike keep old new (catalog_in old) before after same i }) ∙ sym (ap (bare_volume keep) volume)
